-- Members of lists.
--
-- Among x xs == x is a member of the list
-- Once xs    == no member stands twice
use Rattle.std.specs.Prelude.{◌≡◌, ◌⊎◌, List, [], ◌∷◌, ⊤}

abbrev pub Among : {A : Type 0} → A → List A → Type 0
Among x [] = ⊥
Among x (y ∷ ys) = (x ≡ y) ⊎ Among x ys

abbrev pub Once : {A : Type 0} → List A → Type 0
Once [] = ⊤
Once (x ∷ xs) = (Among x xs → ⊥) × Once xs
