-- The reports of the tests, in degree 1 through exponent 3, under one height of 1.
--
-- one, none         == the class 1, and class zero
-- unit              == the series 1
-- tested s          == the family of class zero with 1, and the class 1 with the series s
-- tested_integer x  == the integer x of genus 0 at the class 1
use Rattle.std.specs.Prelude.{ℤ, pos, List, [], ◌∷◌}
use Rattle.tv_ring.specs.Whole.{wholes}
use Rattle.tv_laws_series.specs.Terms.{Terms, terms}
use Rattle.tv_spec_series.specs.Families.{Family, added, without_rows}
use Rattle.tv_integers.specs.Kept.{Kept, with_integer, without_integers}

abbrev pub one : List ℤ
one = pos 1 ∷ []

abbrev pub none : List ℤ
none = pos 0 ∷ []

abbrev pub unit : Terms ℤ
unit = terms (pos 0) (pos 1 ∷ pos 0 ∷ pos 0 ∷ pos 0 ∷ [])

abbrev pub tested : Terms ℤ → Family ℤ
tested s = added wholes one s (added wholes none unit (without_rows one (pos 1) (pos 3)))

abbrev pub tested_integer : ℤ → Kept
tested_integer x = with_integer one (record { genus = 0; value = x }) (without_integers one)
