-- How far a family was read, class by class, and what follows at the end or at the first fault.
--
-- IsUnderWay D N f w T read back is ls == of a closed list of classes the first are read, with the integers `is` and the table ls;
--                       w is the slope of the series, T is N + w D, and the product agrees through N at each class that was read
-- IsLaterRead D N f w T read back is v base ls == so it is, v comes next, and its exponent 0 has the weight base
-- HasAllIntegers D N f is == these are the integers of the family, and their product agrees with it through N
-- IsWidePlace D N f v n == the majorant over the integers of the family is above the limit there
-- IsUnequalPlace D N f v n x y == v and n are the first place at which the family, which has x there, and the product over its
--                       integers, which has y, differ
-- StepsOn             == with the next class it is under way, where its series and its product agree through N
-- EndsWell            == where no class is left these are all integers
-- PartsAreWide        == where the sizes of the parts at a weight through T exceed the limit, the place is too wide
-- ReadingIsWide       == so it is where those of series, product and powers do
-- DifferenceIsSeen    == where series and product differ at a weight through N, not before, the family is unequal there
use Rattle.std.specs.Prelude.{◌≡◌, ◌≢◌, ℕ, ◌*◌, ◌≤◌, ◌<◌, ℤ, pos, ◌+ℤ◌, ◌*ℤ◌, ◌≤ℤ◌, ◌<ℤ◌, List, [], ◌∷◌, ◌++◌}
use Rattle.std.specs.List.{AllByRecursion}
use Rattle.tv_ring.specs.Operations.{limit}
use Rattle.tv_ring.specs.Whole.{wholes}
use Rattle.tv_spec_plane.specs.Web.{degree_of}
use Rattle.tv_spec_series.specs.Families.{Family, coefficient_of}
use Rattle.tv_spec_katz.specs.Katz.{Integer, katz}
use Rattle.tv_spec_katz.specs.Integers.{Agrees, IsCompared, IsMismatch}
use Rattle.tv_spec_katz.specs.Majorant.{majorant}
use Rattle.tv_spec_katz.specs.Relations.{AreIntegers, IsNormalized}
use Rattle.tv_laws_integers.specs.Closed.{IsClosedList}
use Rattle.tv_laws_integers.specs.Reading.{BeginsAbove, AgreesThrough, IsBegun}
use Rattle.tv_recurrence.specs.KatzParts.{katz_by_weight}
use Rattle.tv_recurrence.specs.Parts.{parts_size}
use Rattle.tv_recurrence.specs.Products.{exponent_at}
use Rattle.tv_class_integers.specs.Readings.{sign_at, size_at}
use Rattle.tv_class_integers.specs.Differences.{AgreeBelow}
use Rattle.tv_class_integers.specs.NextClasses.{series_by_weight, class_readings, read_onto, product_after}
use Rattle.tv_class_parts.specs.ReadClasses.{ReadClass, parts_of}
use Rattle.tv_class_parts.specs.Tables.{IsTable, IsAfterClass}

pub record IsUnderWay (D : ℕ) (N : ℤ) (f : Family ℤ) (w T : ℕ) (read back : List (List ℤ)) (is : List Integer)
    (ls : List ReadClass) : Type 0 where
  pub reach : pos T ≡ N +ℤ pos (w * D)
  pub far : pos 1 ≤ℤ N
  pub normalized : IsNormalized N f
  pub known : (v : List ℤ) (n : ℤ) → N <ℤ n → coefficient_of wholes f v n ≡ pos 0
  pub begins : BeginsAbove D f w
  pub least : (c : ℕ) → BeginsAbove D f c → w ≤ c
  pub closed : IsClosedList D f (read ++ back)
  pub begun : IsBegun D f read is
  pub agrees : AllByRecursion (AgreesThrough N f is) read
  pub table : IsTable f.heights w T read is ls

pub record IsLaterRead (D : ℕ) (N : ℤ) (f : Family ℤ) (w T : ℕ) (read back : List (List ℤ)) (is : List Integer) (v : List ℤ)
    (base : ℕ) (ls : List ReadClass) : Type 0 where
  pub way : IsUnderWay D N f w T read (v ∷ back) is ls
  pub place : pos base ≡ pos w *ℤ degree_of f.heights v

pub record HasAllIntegers (D : ℕ) (N : ℤ) (f : Family ℤ) (is : List Integer) : Type 0 where
  pub are : AreIntegers D f is
  pub agrees : (v : List ℤ) (n : ℤ) → IsCompared D N f v n → Agrees f is v n

pub record IsWidePlace (D : ℕ) (N : ℤ) (f : Family ℤ) (v : List ℤ) (n : ℤ) : Type 0 where
  pub integers : List Integer
  pub are : AreIntegers D f integers
  pub wide : limit < majorant D N f integers v n

pub record IsUnequalPlace (D : ℕ) (N : ℤ) (f : Family ℤ) (v : List ℤ) (n x y : ℤ) : Type 0 where
  pub integers : List Integer
  pub are : AreIntegers D f integers
  pub mismatch : IsMismatch D N f integers v n
  pub family : x ≡ coefficient_of wholes f v n
  pub katz : y ≡ katz f.heights integers v n

abbrev pub StepsOn : Type 0
StepsOn =
    (D : ℕ) (N : ℤ) (f : Family ℤ) (w T : ℕ) (read back : List (List ℤ)) (is : List Integer) (v : List ℤ) (base : ℕ)
    (ls : List ReadClass) (l : ReadClass) (end : ℕ) → IsLaterRead D N f w T read back is v base ls →
    IsAfterClass f w T is v base l → pos end ≡ (N +ℤ pos base) +ℤ pos 1 →
    AgreeBelow base (series_by_weight f w v) (product_after f w base is v) end →
    IsUnderWay D N f w T (read ++ v ∷ []) back (read_onto f w base is v) (ls ++ l ∷ [])

abbrev pub EndsWell : Type 0
EndsWell =
    (D : ℕ) (N : ℤ) (f : Family ℤ) (w T : ℕ) (read : List (List ℤ)) (is : List Integer) (ls : List ReadClass) →
    IsUnderWay D N f w T read [] is ls → HasAllIntegers D N f is

abbrev pub PartsAreWide : Type 0
PartsAreWide =
    (D : ℕ) (N : ℤ) (f : Family ℤ) (w T : ℕ) (read back : List (List ℤ)) (is : List Integer) (v : List ℤ) (base : ℕ)
    (ls : List ReadClass) (d t : ℕ) → IsLaterRead D N f w T read back is v base ls → pos d ≡ degree_of f.heights v → t ≤ T →
    limit < parts_size t (parts_of ls v d) → IsWidePlace D N f v (exponent_at f.heights w v t)

abbrev pub ReadingIsWide : Type 0
ReadingIsWide =
    (D : ℕ) (N : ℤ) (f : Family ℤ) (w T : ℕ) (read back : List (List ℤ)) (is : List Integer) (v : List ℤ) (base : ℕ)
    (ls : List ReadClass) (t : ℕ) → IsLaterRead D N f w T read back is v base ls → t ≤ T →
    limit < size_at base (series_by_weight f w v) (katz_by_weight f.heights w is v) (class_readings f w base is v) t →
    IsWidePlace D N f v (exponent_at f.heights w v t)

abbrev pub DifferenceIsSeen : Type 0
DifferenceIsSeen =
    (D : ℕ) (N : ℤ) (f : Family ℤ) (w T : ℕ) (read back : List (List ℤ)) (is : List Integer) (v : List ℤ) (base : ℕ)
    (ls : List ReadClass) (t : ℕ) → IsLaterRead D N f w T read back is v base ls → pos t ≤ℤ (N +ℤ pos base) →
    AgreeBelow base (series_by_weight f w v) (product_after f w base is v) t →
    series_by_weight f w v t ≢ (sign_at base t *ℤ product_after f w base is v t) →
    IsUnequalPlace D N f v (exponent_at f.heights w v t) (series_by_weight f w v t)
    (sign_at base t *ℤ product_after f w base is v t)
