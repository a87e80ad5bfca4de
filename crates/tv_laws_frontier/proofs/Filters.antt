-- Filters one after the other, and lengths of joined pieces.
use Rattle.std.specs.Prelude.{◌≡◌, ℕ, ◌+◌, ◌≤◌, Bool, true, false, cond, ◌&&◌, List, [], ◌∷◌, filter, length}
use Rattle.std.specs.List.{flat_map, AllByRecursion}
use Rattle.std.proofs.Common.{refl, ap, ◌∙◌, arith, length-append}
use Rattle.tv_lemmas.specs.Sums.{sum_of}

pub filter-both : {A : Type 0} (p q : A → Bool) (xs : List A) → filter p (filter q xs) ≡ filter (λ x. q x && p x) xs
filter-both p q [] = refl
filter-both p q (x ∷ xs) = step (q x) (filter-both p q xs)
  where
    step : (b : Bool) → filter p (filter q xs) ≡ filter (λ y. q y && p y) xs → filter p (cond b (x ∷ filter q xs) (filter q xs)) ≡ cond (b && p x) (x ∷ filter (λ y. q y && p y) xs) (filter (λ y. q y && p y) xs)
    step true e = ap (λ ys. cond (p x) (x ∷ ys) ys) e
    step false e = e

pub filter-alike : {A : Type 0} (p q : A → Bool) → ((x : A) → p x ≡ q x) → (xs : List A) → filter p xs ≡ filter q xs
filter-alike p q same [] = refl
filter-alike p q same (x ∷ xs) = rw (same x) (ap (λ ys. cond (q x) (x ∷ ys) ys) (filter-alike p q same xs))

pub length-flat_map : {A B : Type 0} (f : A → List B) (xs : List A) → length (flat_map f xs) ≡ sum_of (λ x. length (f x)) xs
length-flat_map f [] = refl
length-flat_map f (x ∷ xs) = length-append (f x) (flat_map f xs) ∙ ap (λ s. length (f x) + s) (length-flat_map f xs)

pub sum_of-same : {A : Type 0} (f g : A → ℕ) (xs : List A) → AllByRecursion (λ x. f x ≡ g x) xs → sum_of f xs ≡ sum_of g xs
sum_of-same f g [] all = refl
sum_of-same f g (x ∷ xs) all = let here = all.0 in let rest = sum_of-same f g xs all.1 in omega arith

-- fewer members add up to less
pub sum_of-fewer : {A : Type 0} (f : A → ℕ) (p q : A → Bool) → ((x : A) → p x ≡ true → q x ≡ true) → (xs : List A) → sum_of f (filter p xs) ≤ sum_of f (filter q xs)
sum_of-fewer f p q also [] = omega arith
sum_of-fewer f p q also (x ∷ xs) = step (p x) (q x) (also x) (sum_of-fewer f p q also xs)
  where
    step : (b c : Bool) → (b ≡ true → c ≡ true) → sum_of f (filter p xs) ≤ sum_of f (filter q xs) → sum_of f (cond b (x ∷ filter p xs) (filter p xs)) ≤ sum_of f (cond c (x ∷ filter q xs) (filter q xs))
    step true true h le = omega arith
    step true false h le = absurd (let no : false ≡ true = h refl in cc)
    step false true h le = omega arith
    step false false h le = le
