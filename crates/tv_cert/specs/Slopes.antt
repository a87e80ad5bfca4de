-- The genera of a report's integers, class by class.
--
-- values_genus gs     == the greatest genus; 0 where there is none
-- class_number k n    == the class number n of those that have integers
-- class_genus is v    == the greatest genus of the class v
-- class_slope hs is v == the least c from 0 on with that genus less 1 at most c times the degree of v
-- IsSlopeOf hs is w   == each genus is at most 1 + w times the degree of its class, and w is at most the greatest slope of the integers
-- IsWideClass is v    == an integer of the class v has a genus whose binomial coefficients exceed the limit
use Rattle.std.specs.Prelude.{◌≡◌, Contains, ℕ, ◌-◌, ◌≤◌, ℤ, max, List, [], ◌∷◌, slice_index_or}
use Rattle.std.specs.List.{AllByRecursion}
use Rattle.tv_lemmas.specs.Naturals.{as_natural}
use Rattle.tv_spec_plane.specs.Web.{degree_of}
use Rattle.tv_spec_katz.specs.Katz.{Integer}
use Rattle.tv_spec_katz.specs.Majorant.{rounded_up, greatest_slope}
use Rattle.tv_laws_katz.specs.Weights.{IsWithinSlope}
use Rattle.tv_laws_majorant.specs.Laws.{least_wide_genus}
use Rattle.tv_integers.specs.declared.genus_value.GenusValue.{GenusValue}
use Rattle.tv_integers.specs.Kept.{Kept, classes_of, values_of}

abbrev pub values_genus : List GenusValue → ℕ
values_genus [] = 0
values_genus (g ∷ gs) = max g.genus (values_genus gs)

abbrev pub class_number : Kept → ℕ → List ℤ
class_number k n = slice_index_or (classes_of k.heights k.integers) n []

abbrev pub class_genus : List Integer → List ℤ → ℕ
class_genus is v = values_genus (values_of v is)

abbrev pub class_slope : List ℤ → List Integer → List ℤ → ℕ
class_slope hs is v = rounded_up (class_genus is v - 1) (as_natural (degree_of hs v))

pub record IsSlopeOf (hs : List ℤ) (is : List Integer) (w : ℕ) : Type 0 where
  pub within : AllByRecursion (IsWithinSlope hs w) is
  pub least : w ≤ greatest_slope hs is

pub record IsWideClass (is : List Integer) (v : List ℤ) : Type 0 where
  pub integer : Integer
  pub among : Contains is integer
  pub class : integer.class ≡ v
  pub genus : least_wide_genus ≤ integer.genus
