-- Tables of classes that were read, and what they say of Katz's product.
--
-- IsReadClass hs w T is l == the row has the product over the integers `is` at the class of l by weight, through T, and its powers
--                       are those of the integers' factors, each step once
-- IsTable hs w T read is ls == class zero, and then the classes `read` in this order
-- IsBeforeClass D f w read back is v == `read`, v and `back` are a closed list of classes, and the first of them are read
-- IsAfterClass f w T is v base l == l has the class v, its product after it is read, and the powers of what is read
-- PartsAreKatz        == then the parts for v are those that the recurrence needs, at each weight through T
-- TableGoesOn         == and with v, its product and its powers it is the table after v
use Rattle.std.specs.Prelude.{◌≡◌, ℕ, ◌≤◌, ℤ, pos, ◌+ℤ◌, List, [], ◌∷◌, ◌++◌, length, map}
use Rattle.std.specs.List.{AllByRecursion, IsDistinct}
use Rattle.tv_ring.specs.Whole.{wholes}
use Rattle.tv_ring.specs.Sums.{at}
use Rattle.tv_spec_plane.specs.Web.{degree_of}
use Rattle.tv_spec_boxes.specs.Assignments.{zeros}
use Rattle.tv_spec_series.specs.Families.{Family}
use Rattle.tv_spec_katz.specs.Katz.{Integer, factors}
use Rattle.tv_laws_katz.specs.Gathered.{power_in}
use Rattle.tv_laws_katz.specs.Logarithm.{begins_at}
use Rattle.tv_laws_integers.specs.Closed.{IsClosedList}
use Rattle.tv_recurrence.specs.KatzParts.{katz_by_weight, IsKatzLogarithmic}
use Rattle.tv_recurrence.specs.Products.{power_by, same_step}
use Rattle.tv_class_integers.specs.Readings.{power_sum}
use Rattle.tv_class_integers.specs.NextClasses.{class_readings, read_onto, product_after, IsNextClass}
use Rattle.tv_class_parts.specs.ReadClasses.{ReadClass, parts_of}

pub record IsReadClass (hs : List ℤ) (w T : ℕ) (is : List Integer) (l : ReadClass) : Type 0 where
  pub entries : length l.class ≡ length hs
  pub degree : pos l.degree ≡ degree_of hs l.class
  pub coefficients : (t : ℕ) → t ≤ T → at wholes l.row t ≡ katz_by_weight hs w is l.class t
  pub factors : (s : ℕ) → s ≤ T → power_by l.powers s ≡ power_in (factors hs T is) l.class (begins_at hs w l.class +ℤ pos s)
  pub once : IsDistinct same_step l.powers

pub record IsTable (hs : List ℤ) (w T : ℕ) (read : List (List ℤ)) (is : List Integer) (ls : List ReadClass) : Type 0 where
  pub classes : map (λ (l : ReadClass). l.class) ls ≡ zeros (length hs) ∷ read
  pub each : AllByRecursion (IsReadClass hs w T is) ls

pub record IsBeforeClass (D : ℕ) (f : Family ℤ) (w : ℕ) (read back : List (List ℤ)) (is : List Integer) (v : List ℤ)
    (base : ℕ) : Type 0 where
  pub next : IsNextClass D f w read is v base
  pub closed : IsClosedList D f (read ++ v ∷ back)

abbrev pub PartsAreKatz : Type 0
PartsAreKatz =
    (D : ℕ) (f : Family ℤ) (w T : ℕ) (read back : List (List ℤ)) (is : List Integer) (v : List ℤ) (base : ℕ)
    (ls : List ReadClass) (d t : ℕ) → IsBeforeClass D f w read back is v base → IsTable f.heights w T read is ls →
    pos d ≡ degree_of f.heights v → t ≤ T → IsKatzLogarithmic f.heights w D T is v t read (parts_of ls v d)

pub record IsAfterClass (f : Family ℤ) (w T : ℕ) (is : List Integer) (v : List ℤ) (base : ℕ) (l : ReadClass) : Type 0 where
  pub class : l.class ≡ v
  pub degree : pos l.degree ≡ degree_of f.heights v
  pub coefficients : (t : ℕ) → t ≤ T → at wholes l.row t ≡ product_after f w base is v t
  pub powers : (t : ℕ) → t ≤ T → power_by l.powers t ≡ power_sum base (class_readings f w base is v) t
  pub once : IsDistinct same_step l.powers

abbrev pub TableGoesOn : Type 0
TableGoesOn =
    (D : ℕ) (f : Family ℤ) (w T : ℕ) (read back : List (List ℤ)) (is : List Integer) (v : List ℤ) (base : ℕ)
    (ls : List ReadClass) (l : ReadClass) → IsBeforeClass D f w read back is v base → IsTable f.heights w T read is ls →
    IsAfterClass f w T is v base l → IsTable f.heights w T (read ++ v ∷ []) (read_onto f w base is v) (ls ++ l ∷ [])
