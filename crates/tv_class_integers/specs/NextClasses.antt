-- The next class of a family, read off on numbers, and what is known after it.
--
-- series_by_weight f w v t == the coefficient of the class v at the weight t
-- class_readings f w base is v == the numbers that are read off the class v after the integers `is`
-- product_after f w base is v t == the product over `is` at the weight t of v, less the powers of these numbers
-- read_onto f w base is v  == the integers `is` with those of them that are not 0
-- IsNextClass D f w read is v base == each series begins at - w * degree or above, the classes that were read have the integers
--                        `is`, the class v of degree 1 to D comes after them, and its exponent 0 has the weight base
-- ClassIsRead         == after the class v the classes that were read with v have these integers
-- ClassesKeep         == the classes before v keep their product
-- ProductIsRead       == by weight the product of v is that over the earlier integers less the powers of v
-- ClassAgrees         == where series and product of v agree at the weights below N + base + 1, they agree through N
-- DifferenceIsFirst   == where they differ at a weight, not before, then v differs there, and at no lesser exponent
-- IsLastOf D N f w is v base more == the integers `more` behind those of v: all of them are in order and have the greatest
--                        slope w, and the series of v is 0 beyond N
-- SizeIsMajorant      == where the sizes of series, product and powers at a weight through N + w D exceed the limit, so does
--                        the majorant over all integers there
use Rattle.std.specs.Prelude.{◌≡◌, ◌≢◌, ℕ, ◌*◌, ◌<◌, ℤ, pos, ◌+ℤ◌, ◌*ℤ◌, ◌≤ℤ◌, ◌<ℤ◌, List, [], ◌∷◌, ◌++◌}
use Rattle.std.specs.List.{AllByRecursion}
use Rattle.tv_ring.specs.Operations.{limit}
use Rattle.tv_ring.specs.Whole.{wholes}
use Rattle.tv_spec_plane.specs.Web.{degree_of}
use Rattle.tv_spec_boxes.specs.Classes.{IsBefore}
use Rattle.tv_spec_series.specs.Families.{Family, coefficient_of}
use Rattle.tv_spec_katz.specs.Katz.{Integer, katz}
use Rattle.tv_spec_katz.specs.Integers.{Agrees, Differs}
use Rattle.tv_spec_katz.specs.Majorant.{greatest_slope, majorant}
use Rattle.tv_spec_katz.specs.Relations.{AreOrdered}
use Rattle.tv_laws_integers.specs.Closed.{IsClassTo}
use Rattle.tv_laws_integers.specs.Reading.{BeginsAbove, AgreesThrough, IsBegun}
use Rattle.tv_recurrence.specs.KatzParts.{katz_by_weight}
use Rattle.tv_recurrence.specs.Products.{exponent_at}
use Rattle.tv_class_integers.specs.Readings.{all_readings, product_at, sign_at, size_at}
use Rattle.tv_class_integers.specs.ClassIntegers.{onto}
use Rattle.tv_class_integers.specs.Differences.{AgreeBelow}

abbrev pub series_by_weight : Family ℤ → ℕ → List ℤ → ℕ → ℤ
series_by_weight f w v t = coefficient_of wholes f v (exponent_at f.heights w v t)

abbrev pub class_readings : Family ℤ → ℕ → ℕ → List Integer → List ℤ → List ℤ
class_readings f w base is v = all_readings base (series_by_weight f w v) (katz_by_weight f.heights w is v)

abbrev pub read_onto : Family ℤ → ℕ → ℕ → List Integer → List ℤ → List Integer
read_onto f w base is v = onto v base (class_readings f w base is v) is

abbrev pub product_after : Family ℤ → ℕ → ℕ → List Integer → List ℤ → ℕ → ℤ
product_after f w base is v = product_at base (katz_by_weight f.heights w is v) (class_readings f w base is v)

pub record IsNextClass (D : ℕ) (f : Family ℤ) (w : ℕ) (read : List (List ℤ)) (is : List Integer) (v : List ℤ)
    (base : ℕ) : Type 0 where
  pub begins : BeginsAbove D f w
  pub begun : IsBegun D f read is
  pub class : IsClassTo D f.heights v
  pub after : AllByRecursion (λ u. IsBefore f.heights u v) read
  pub place : pos base ≡ pos w *ℤ degree_of f.heights v

abbrev pub ClassIsRead : Type 0
ClassIsRead =
    (D : ℕ) (f : Family ℤ) (w : ℕ) (read : List (List ℤ)) (is : List Integer) (v : List ℤ) (base : ℕ) →
    IsNextClass D f w read is v base → IsBegun D f (read ++ v ∷ []) (read_onto f w base is v)

abbrev pub ClassesKeep : Type 0
ClassesKeep =
    (D : ℕ) (f : Family ℤ) (w : ℕ) (read : List (List ℤ)) (is : List Integer) (v : List ℤ) (base : ℕ) →
    IsNextClass D f w read is v base → (u : List ℤ) (n : ℤ) → IsBefore f.heights u v →
    katz f.heights (read_onto f w base is v) u n ≡ katz f.heights is u n

abbrev pub ProductIsRead : Type 0
ProductIsRead =
    (D : ℕ) (f : Family ℤ) (w : ℕ) (read : List (List ℤ)) (is : List Integer) (v : List ℤ) (base : ℕ) →
    IsNextClass D f w read is v base → (t : ℕ) →
    katz_by_weight f.heights w (read_onto f w base is v) v t ≡ product_after f w base is v t

abbrev pub ClassAgrees : Type 0
ClassAgrees =
    (D : ℕ) (f : Family ℤ) (w : ℕ) (read : List (List ℤ)) (is : List Integer) (v : List ℤ) (base : ℕ) (N : ℤ) (end : ℕ) →
    IsNextClass D f w read is v base → pos end ≡ (N +ℤ pos base) +ℤ pos 1 →
    AgreeBelow base (series_by_weight f w v) (product_after f w base is v) end → AgreesThrough N f (read_onto f w base is v) v

abbrev pub DifferenceIsFirst : Type 0
DifferenceIsFirst =
    (D : ℕ) (f : Family ℤ) (w : ℕ) (read : List (List ℤ)) (is : List Integer) (v : List ℤ) (base t : ℕ) →
    IsNextClass D f w read is v base → AgreeBelow base (series_by_weight f w v) (product_after f w base is v) t →
    series_by_weight f w v t ≢ (sign_at base t *ℤ product_after f w base is v t) →
    Differs f (read_onto f w base is v) v (exponent_at f.heights w v t) ×
    ((m : ℤ) → m <ℤ exponent_at f.heights w v t → Agrees f (read_onto f w base is v) v m)

pub record IsLastOf (D : ℕ) (N : ℤ) (f : Family ℤ) (w : ℕ) (is : List Integer) (v : List ℤ) (base : ℕ)
    (more : List Integer) : Type 0 where
  pub ordered : AreOrdered D f.heights (more ++ read_onto f w base is v)
  pub slope : greatest_slope f.heights (more ++ read_onto f w base is v) ≡ w
  pub known : (n : ℤ) → N <ℤ n → coefficient_of wholes f v n ≡ pos 0

abbrev pub SizeIsMajorant : Type 0
SizeIsMajorant =
    (D : ℕ) (N : ℤ) (f : Family ℤ) (w : ℕ) (read : List (List ℤ)) (is : List Integer) (v : List ℤ) (base : ℕ)
    (more : List Integer) (t : ℕ) → IsNextClass D f w read is v base → IsLastOf D N f w is v base more →
    pos t ≤ℤ (N +ℤ pos (w * D)) →
    limit < size_at base (series_by_weight f w v) (katz_by_weight f.heights w is v) (class_readings f w base is v) t →
    limit < majorant D N f (more ++ read_onto f w base is v) v (exponent_at f.heights w v t)
