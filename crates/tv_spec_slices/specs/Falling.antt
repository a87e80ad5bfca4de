-- Lists of numbers that fall weakly and have no 0.
--
-- falls xs == whether the list is so
use Rattle.std.specs.Prelude.{ℕ, Bool, true, ◌&&◌, List, [], ◌∷◌, nat_lt, nat_le}

abbrev pub falls : List ℕ → Bool
falls [] = true
falls (x ∷ []) = nat_lt 0 x
falls (x ∷ y ∷ xs) = nat_le y x && falls (y ∷ xs)
