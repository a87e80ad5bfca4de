-- Sums over lists.
--
-- total f xs  == the sum of f over the list, where f gives whole numbers
-- sum_of f xs == the sum of f over the list, where f gives natural numbers
-- plus u v    == the sum of two vectors, entry by entry; what the longer one has more is kept
use Rattle.std.specs.Prelude.{ℕ, ◌+◌, ℤ, pos, ◌+ℤ◌, List, [], ◌∷◌}

abbrev pub total : {A : Type 0} → (A → ℤ) → List A → ℤ
total f [] = pos 0
total f (x ∷ xs) = f x +ℤ total f xs

abbrev pub sum_of : {A : Type 0} → (A → ℕ) → List A → ℕ
sum_of f [] = 0
sum_of f (x ∷ xs) = f x + sum_of f xs

abbrev pub plus : List ℤ → List ℤ → List ℤ
plus [] v = v
plus (x ∷ u) [] = x ∷ u
plus (x ∷ u) (y ∷ v) = (x +ℤ y) ∷ plus u v
