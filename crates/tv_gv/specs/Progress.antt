-- How far the integers of a family were read.
--
-- last_weight f w    == the weight of the family's last exponent at its greatest degree, with the slope w
-- IsSlope f w        == w is the least slope such that each series begins at - w * degree or above
-- zero_line hs       == class zero as a class that was read: its product is 1
-- way_at f w vs k is == the first k of the classes vs are read, with the integers `is`
-- IsReadTo f w vs k kept ls == so it is with the integers that are kept and the table ls
-- IsLastPlace hs v g is == an integer of the class v and the genus g comes later than all of the list
-- IsLastClass hs v is == the class v comes after those of the list
-- IsWeightBelow fault == its weight is below 2^31
-- IsAtWeight v base fault result == the fault at the class v, with the exponent for the weight
use Rattle.std.specs.Prelude.{◌≡◌, ◌⊎◌, ⊤, ℕ, suc, ◌+◌, ◌*◌, ◌≤◌, ◌<◌, ◌^◌, ℤ, pos, ◌-ℤ◌, List, [], ◌∷◌, length, take, drop}
use Rattle.std.specs.List.{AllByRecursion}
use Rattle.tv_lemmas.specs.Naturals.{as_natural}
use Rattle.tv_spec_boxes.specs.Assignments.{zeros}
use Rattle.tv_spec_boxes.specs.Classes.{IsBefore}
use Rattle.tv_spec_series.specs.Families.{Family}
use Rattle.tv_spec_katz.specs.Katz.{Integer}
use Rattle.tv_laws_integers.specs.Reading.{BeginsAbove}
use Rattle.tv_integers.specs.Kept.{Kept}
use Rattle.tv_class_parts.specs.declared.fault.ClassFault.{ClassFault}
use Rattle.tv_class_parts.specs.declared.fault.ClassFault.TheVariants.{Wide as ClassWide, Differ, Memory as ClassMemory}
use Rattle.tv_class_parts.specs.ReadClasses.{ReadClass}
use Rattle.tv_class_parts.specs.Ways.{Way}
use Rattle.tv_class_parts.specs.Progress.{IsUnderWay}
use Rattle.tv_gv.specs.declared.fault.GvFault.{GvFault}
use Rattle.tv_gv.specs.declared.fault.GvFault.TheVariants.{Wide, Mismatch, Memory}
use Rattle.tv_gv.specs.Extracted.{degree_to}

abbrev pub last_weight : Family ℤ → ℕ → ℕ
last_weight f w = as_natural f.upto + w * degree_to f

pub record IsSlope (f : Family ℤ) (w : ℕ) : Type 0 where
  pub begins : BeginsAbove (degree_to f) f w
  pub least : (c : ℕ) → BeginsAbove (degree_to f) f c → w ≤ c

abbrev pub zero_line : List ℤ → ReadClass
zero_line hs = record { class = zeros (length hs); degree = 0; row = pos 1 ∷ []; powers = [] }

abbrev pub way_at : Family ℤ → ℕ → List (List ℤ) → ℕ → List Integer → Way
way_at f w vs k is = record {
  D = degree_to f;
  N = f.upto;
  f = f;
  w = w;
  T = last_weight f w;
  read = take k vs;
  back = drop (suc k) vs;
  integers = is;
}

pub record IsReadTo (f : Family ℤ) (w : ℕ) (vs : List (List ℤ)) (k : ℕ) (kept : Kept) (ls : List ReadClass) : Type 0 where
  pub heights : kept.heights ≡ f.heights
  pub way : IsUnderWay (degree_to f) f.upto f w (last_weight f w) (take k vs) (drop k vs) kept.integers ls

abbrev pub IsLastPlace : List ℤ → List ℤ → ℕ → List Integer → Type 0
IsLastPlace hs v g is = AllByRecursion (λ (i : Integer). IsBefore hs i.class v ⊎ ((v ≡ i.class) × (g < i.genus))) is

abbrev pub IsLastClass : List ℤ → List ℤ → List Integer → Type 0
IsLastClass hs v is = AllByRecursion (λ (i : Integer). IsBefore hs i.class v) is

abbrev pub IsWeightBelow : ClassFault → Type 0
IsWeightBelow (ClassWide t) = t < 2 ^ 31
IsWeightBelow (Differ d) = d.weight < 2 ^ 31
IsWeightBelow ClassMemory = ⊤

abbrev pub IsAtWeight : List ℤ → ℕ → ClassFault → GvFault → Type 0
IsAtWeight v base (ClassWide t) (Wide u n) = (u ≡ v) × (n ≡ pos t -ℤ pos base)
IsAtWeight v base (Differ d) (Mismatch u n series product) =
    (u ≡ v) × (n ≡ pos d.weight -ℤ pos base) × (series ≡ d.series) × (product ≡ d.product)
IsAtWeight v base ClassMemory Memory = ⊤
IsAtWeight v base fault other = ⊥
