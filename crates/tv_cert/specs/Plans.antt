-- A report on the way through its classes.
--
-- IsPlan f k w vs     == a report that can be checked, the slope w of its integers, of at most 64, and a closed list vs of classes, which
--                        has those of the integers; the family is one, and the integers are kept in order
-- IsPowerLine hs w T is l == the line has the powers of the factors of the integers at its class by weight through T, each step once
-- ArePowerLines f k w ls == such a line for each class of integers, in order
-- IsProductLine hs w T is l == the row has the product over the integers at the class of l by weight, through T
-- IsComputedTo f k w vs n ls == class zero and the first n of the classes vs have their product
-- AgreeTo f is vs n   == at these product and family agree through the last exponent
-- IsWeightBelow n fault == its weight is below n
-- IsAtWeight v base fault result == the fault at the class v, with the exponent for the weight
use Rattle.std.specs.Prelude.{◌≡◌, ⊤, ℕ, ◌+◌, ◌*◌, ◌≤◌, ◌<◌, ℤ, pos, ◌+ℤ◌, ◌-ℤ◌, List, ◌∷◌, length, map, take}
use Rattle.std.specs.List.{AllByRecursion, IsDistinct}
use Rattle.tv_lemmas.specs.Naturals.{as_natural}
use Rattle.tv_ring.specs.Whole.{wholes, IsAny}
use Rattle.tv_ring.specs.Sums.{at}
use Rattle.tv_spec_plane.specs.Web.{degree_of}
use Rattle.tv_spec_boxes.specs.Assignments.{zeros}
use Rattle.tv_spec_series.specs.Families.{Family, IsFamily}
use Rattle.tv_spec_katz.specs.Katz.{Integer, factors}
use Rattle.tv_laws_katz.specs.Gathered.{power_in}
use Rattle.tv_laws_katz.specs.Logarithm.{begins_at}
use Rattle.tv_laws_integers.specs.Closed.{IsClosedList, IsListed}
use Rattle.tv_laws_integers.specs.Reading.{AgreesThrough}
use Rattle.tv_integers.specs.Kept.{Kept, AreKept, classes_of}
use Rattle.tv_recurrence.specs.KatzParts.{katz_by_weight}
use Rattle.tv_recurrence.specs.Products.{power_by, same_step}
use Rattle.tv_recurrence.specs.declared.fault.RowFault.{RowFault}
use Rattle.tv_recurrence.specs.declared.fault.RowFault.TheVariants.{Wide as RowWide, Memory as RowMemory}
use Rattle.tv_class_parts.specs.ReadClasses.{ReadClass}
use Rattle.tv_gv.specs.Extracted.{degree_to}
use Rattle.tv_gv.specs.Progress.{last_weight}
use Rattle.tv_cert.specs.declared.fault.CertFault.{CertFault}
use Rattle.tv_cert.specs.declared.fault.CertFault.TheVariants.{Wide, Memory}
use Rattle.tv_cert.specs.Verified.{IsCheckable}
use Rattle.tv_cert.specs.Slopes.{IsSlopeOf}

pub record IsPlan (f : Family ℤ) (k : Kept) (w : ℕ) (vs : List (List ℤ)) : Type 0 where
  pub checkable : IsCheckable f k
  pub family : IsFamily IsAny wholes f
  pub kept : AreKept k.heights k.integers
  pub slope : IsSlopeOf f.heights k.integers w
  pub low : w ≤ 64
  pub closed : IsClosedList (degree_to f) f vs
  pub listed : AllByRecursion (IsListed vs) k.integers

pub record IsPowerLine (hs : List ℤ) (w T : ℕ) (is : List Integer) (l : ReadClass) : Type 0 where
  pub entries : length l.class ≡ length hs
  pub degree : pos l.degree ≡ degree_of hs l.class
  pub positive : 1 ≤ l.degree
  pub factors : (s : ℕ) → s ≤ T → power_by l.powers s ≡ power_in (factors hs T is) l.class (begins_at hs w l.class +ℤ pos s)
  pub once : IsDistinct same_step l.powers

pub record ArePowerLines (f : Family ℤ) (k : Kept) (w : ℕ) (ls : List ReadClass) : Type 0 where
  pub classes : map (λ (l : ReadClass). l.class) ls ≡ classes_of k.heights k.integers
  pub each : AllByRecursion (IsPowerLine f.heights w (last_weight f w) k.integers) ls

pub record IsProductLine (hs : List ℤ) (w T : ℕ) (is : List Integer) (l : ReadClass) : Type 0 where
  pub entries : length l.class ≡ length hs
  pub degree : pos l.degree ≡ degree_of hs l.class
  pub coefficients : (t : ℕ) → t ≤ T → at wholes l.row t ≡ katz_by_weight hs w is l.class t

pub record IsComputedTo (f : Family ℤ) (k : Kept) (w : ℕ) (vs : List (List ℤ)) (n : ℕ) (ls : List ReadClass) : Type 0 where
  pub classes : map (λ (l : ReadClass). l.class) ls ≡ zeros (length f.heights) ∷ take n vs
  pub each : AllByRecursion (IsProductLine f.heights w (last_weight f w) k.integers) ls

abbrev pub AgreeTo : Family ℤ → List Integer → List (List ℤ) → ℕ → Type 0
AgreeTo f is vs n = AllByRecursion (AgreesThrough f.upto f is) (take n vs)

abbrev pub IsWeightBelow : ℕ → RowFault → Type 0
IsWeightBelow n (RowWide t) = t < n
IsWeightBelow n RowMemory = ⊤

abbrev pub IsAtWeight : List ℤ → ℕ → RowFault → CertFault → Type 0
IsAtWeight v base (RowWide t) (Wide u n) = (u ≡ v) × (n ≡ pos t -ℤ pos base)
IsAtWeight v base RowMemory Memory = ⊤
IsAtWeight v base fault other = ⊥
