-- Where a genus stands among the values of a class.
--
-- genus_place g vs == how many values in front have a lesser genus than g
-- has_genus g found == whether a value was found, and has the genus g
use Rattle.std.specs.Prelude.{ℕ, suc, Bool, false, List, [], ◌∷◌, nat_eq, nat_lt, Option, Some, None, if◌then◌else◌}
use Rattle.tv_integers.specs.declared.genus_value.GenusValue.{GenusValue}

abbrev pub genus_place : ℕ → List GenusValue → ℕ
genus_place g [] = 0
genus_place g (h ∷ hs) = if nat_lt h.genus g then suc (genus_place g hs) else 0

abbrev pub has_genus : ℕ → Option GenusValue → Bool
has_genus g None = false
has_genus g (Some h) = nat_eq h.genus g
