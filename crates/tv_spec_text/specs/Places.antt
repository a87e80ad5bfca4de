-- Languages of lists, and the first place at which a list leaves one.
--
-- Begins L xs    == some list of L begins with xs
-- IsPlace L xs k == items 0 to k - 1 begin a list of L, and items 0 to k begin none; where the items begin a list
--                   of L and end too early, k is their number
use Rattle.std.specs.Prelude.{◌≡◌, ℕ, suc, ◌<◌, ◌≤◌, List, ◌++◌, length, take}

abbrev pub Begins : {A : Type 0} → (List A → Type 0) → List A → Type 0
Begins {A} L xs = (rest : List A) × L (xs ++ rest)

pub record IsPlace {A : Type 0} (L : List A → Type 0) (xs : List A) (k : ℕ) : Type 0 where
  pub within : k ≤ length xs
  pub before : Begins L (take k xs)
  pub outside : k < length xs → Begins L (take (suc k) xs) → ⊥
  pub short : k ≡ length xs → L xs → ⊥
