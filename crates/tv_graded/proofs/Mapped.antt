-- A list whose first elements are mapped, one more at a time.
use Rattle.std.proofs.Common.{◌≡◌, ℕ, zero, suc, ◌<◌, List, [], ◌∷◌, ◌++◌, length, get_or, set, map, take, drop, ◌∙◌, ap, arith}
use Rattle.std.proofs.lemmas.List.{length-map, take-append-le, take_all}

pub mapped_next : {X : Type 0} (f : X → X) (xs : List X) (i : ℕ) (x y : X) → i < length xs → x ≡ get_or (map f (take i xs) ++ drop i xs) i x → y ≡ f x → set (map f (take i xs) ++ drop i xs) i y ≡ map f (take (suc i) xs) ++ drop (suc i) xs
mapped_next f [] i x y h read e = absurd (omega arith)
mapped_next f (z ∷ xs) zero x y h read e = ap (λ w. w ∷ xs) (e ∙ ap f read)
mapped_next f (z ∷ xs) (suc i) x y h read e = ap (λ ws. f z ∷ ws) (mapped_next f xs i x y (omega arith) read e)

-- what a loop wrote over a whole vector
pub written_back : {X : Type 0} (f : X → X) (n : ℕ) (xs ys zs : List X) → n ≡ length xs → ys ≡ map f zs → zs ≡ xs → take n (ys ++ drop (length ys) xs) ≡ map f xs
written_back f n xs ys zs en ey ez =
    let l = ap length ey in let m = length-map zs f in let k = ap length ez in
    take-append-le n ys (drop (length ys) xs) (omega arith) ∙ take_all n ys (omega arith) ∙ ey ∙ ap (map f) ez
