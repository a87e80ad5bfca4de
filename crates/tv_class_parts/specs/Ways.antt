-- A class that is read on the way through a family.
--
-- Way               == a family to the degree D through N, its slope w, the last weight T, the classes that were read and that
--                       are left, and the integers so far
-- IsGiven g v base d end ls S == v is the next class of the way, d its degree, base the weight of its exponent 0, S its series by
--                       weight through T, and end the weight after that of N
-- IsReadOn g v base ls l values == with v and the line l it is under way, and values are the numbers that were read
-- IsFaultOn g v fault == at v and the exponent of the weight the family is too wide, or unequal
use Rattle.std.specs.Prelude.{◌≡◌, ℕ, ◌+◌, ◌^◌, ◌≤◌, ◌<◌, ℤ, pos, ◌+ℤ◌, List, [], ◌∷◌, ◌++◌, length, reverse}
use Rattle.tv_ring.specs.Whole.{wholes}
use Rattle.tv_ring.specs.Sums.{at}
use Rattle.tv_spec_plane.specs.Web.{degree_of}
use Rattle.tv_spec_series.specs.Families.{Family}
use Rattle.tv_spec_katz.specs.Katz.{Integer}
use Rattle.tv_recurrence.specs.Products.{exponent_at}
use Rattle.tv_class_integers.specs.NextClasses.{series_by_weight, class_readings, read_onto}
use Rattle.tv_class_parts.specs.declared.fault.ClassFault.{ClassFault}
use Rattle.tv_class_parts.specs.declared.fault.ClassFault.TheVariants.{Wide, Differ, Memory}
use Rattle.tv_class_parts.specs.ReadClasses.{ReadClass}
use Rattle.tv_class_parts.specs.Progress.{IsUnderWay, IsLaterRead, IsWidePlace, IsUnequalPlace}

pub record Way : Type 0 where
  pub D : ℕ
  pub N : ℤ
  pub f : Family ℤ
  pub w : ℕ
  pub T : ℕ
  pub read : List (List ℤ)
  pub back : List (List ℤ)
  pub integers : List Integer

pub record IsGiven (g : Way) (v : List ℤ) (base d end : ℕ) (ls : List ReadClass) (series : List ℤ) : Type 0 where
  pub later : IsLaterRead g.D g.N g.f g.w g.T g.read g.back g.integers v base ls
  pub degree : pos d ≡ degree_of g.f.heights v
  pub count : length series ≡ g.T + 1
  pub each : (t : ℕ) → t ≤ g.T → at wholes series t ≡ series_by_weight g.f g.w v t
  pub after : pos end ≡ (g.N +ℤ pos base) +ℤ pos 1
  pub low : d ≤ 24
  pub short : g.T < 2 ^ 30
  pub least : base + 1 ≤ g.T
  pub most : end ≤ g.T + 1

pub record IsReadOn (g : Way) (v : List ℤ) (base : ℕ) (ls : List ReadClass) (l : ReadClass) (values : List ℤ) : Type 0 where
  pub way : IsUnderWay g.D g.N g.f g.w g.T (g.read ++ v ∷ []) g.back (read_onto g.f g.w base g.integers v) (ls ++ l ∷ [])
  pub all : values ≡ reverse (class_readings g.f g.w base g.integers v)

abbrev pub IsFaultOn : Way → List ℤ → ClassFault → Type 0
IsFaultOn g v (Wide t) = IsWidePlace g.D g.N g.f v (exponent_at g.f.heights g.w v t)
IsFaultOn g v (Differ d) = IsUnequalPlace g.D g.N g.f v (exponent_at g.f.heights g.w v d.weight) d.series d.product
IsFaultOn g v Memory = Unit {0}
