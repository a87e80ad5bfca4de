-- Lists over a square, row by row.
--
-- row n f y      == f x y for x below n
-- before n f x y == f over the places before (x, y): the rows below y, and in row y what is left of x
use Rattle.std.proofs.Common.{◌≡◌, ℕ, ◌+◌, List, [], ◌∷◌, ◌++◌, map, sym, ap, ◌∙◌, append_assoc, append-nil, map-id, arith}
use Rattle.std.specs.List.{flat_map}
use Rattle.std.proofs.lemmas.List.FromFn.{map-range_with_len_more}
use Rattle.std.proofs.lemmas.List.Concat.{flat_map-append}
use Rattle.tv_spec_plane.specs.Web.{below}
use Rattle.tv_spec_reports.specs.Grids.{over_square}

abbrev pub row : {A : Type 0} → ℕ → (ℕ → ℕ → A) → ℕ → List A
row n f y = map (λ x. f x y) (below n)

abbrev pub before : {A : Type 0} → ℕ → (ℕ → ℕ → A) → ℕ → ℕ → List A
before n f x y = flat_map (row n f) (below y) ++ map (λ x. f x y) (below x)

below-more : (n : ℕ) → below (n + 1) ≡ below n ++ n ∷ []
below-more n = sym (map-id (below (n + 1))) ∙ map-range_with_len_more (λ x. x) 0 n n (omega arith) ∙ ap (λ z. z ++ n ∷ []) (map-id (below n))

pub before-next : {A : Type 0} (n : ℕ) (f : ℕ → ℕ → A) (x y : ℕ) → before n f x y ++ f x y ∷ [] ≡ before n f (x + 1) y
before-next n f x y = append_assoc (flat_map (row n f) (below y)) _ _ ∙ ap (λ z. flat_map (row n f) (below y) ++ z) (sym (map-range_with_len_more (λ x. f x y) 0 x x (omega arith)))

pub before-row : {A : Type 0} (n : ℕ) (f : ℕ → ℕ → A) (y : ℕ) → before n f n y ≡ before n f 0 (y + 1)
before-row n f y =
    let rows : flat_map (row n f) (below (y + 1)) ≡ flat_map (row n f) (below y) ++ (row n f y ++ []) = ap (flat_map (row n f)) (below-more y) ∙ flat_map-append (row n f) (below y) (y ∷ []) in
    sym (append-nil _ ∙ rows ∙ ap (λ z. flat_map (row n f) (below y) ++ z) (append-nil (row n f y)))

pub before-all : {A : Type 0} (n : ℕ) (f : ℕ → ℕ → A) → before n f 0 n ≡ over_square n f
before-all n f = append-nil (over_square n f)

-- the same, of lists that are joined
pub joined-next : {A : Type 0} (n : ℕ) (f : ℕ → ℕ → List A) (x y : ℕ) → flat_map (λ ts. ts) (before n f x y) ++ f x y ≡ flat_map (λ ts. ts) (before n f (x + 1) y)
joined-next n f x y =
    sym (ap (flat_map (λ ts. ts)) (sym (before-next n f x y)) ∙ flat_map-append (λ ts. ts) (before n f x y) (f x y ∷ []) ∙ ap (λ z. flat_map (λ ts. ts) (before n f x y) ++ z) (append-nil (f x y)))
