-- Classes that are added to a family, and lists that are closed under sums up to a degree.
--
-- entries_by_degree    == how large an entry may be for each degree
-- HasSmallEntries hs v == each entry is at most that times the degree, in absolute value
-- IsSmallClass hs d v  == the class has an entry for each height, a degree from 1 to d, and such entries
-- HasSmallClasses f    == so has each class of the family, of a degree up to the greatest
-- AddsClasses vs f g   == g has the heights, the greatest degree and the last exponent of f, and the classes of f and of the list
-- IsClosedTo f d g     == g has the classes of the family f that have a degree from 1 to d, and with any two of its classes
--                         their sum, where its degree is at most d; it has no class but small ones
use Rattle.std.specs.Prelude.{◌≡◌, ◌⊎◌, ◌↔◌, Contains, ℕ, ℤ, pos, ◌+ℤ◌, ◌*ℤ◌, ◌≤ℤ◌, unsigned_abs, List, length}
use Rattle.std.specs.List.{AllByRecursion}
use Rattle.tv_lemmas.specs.Sums.{plus}
use Rattle.tv_spec_plane.specs.Web.{degree_of}
use Rattle.tv_spec_series.specs.Families.{Family, classes}

abbrev pub entries_by_degree : ℕ
entries_by_degree = 1000000000

abbrev pub HasSmallEntries : List ℤ → List ℤ → Type 0
HasSmallEntries hs v = AllByRecursion (λ x. pos (unsigned_abs x) ≤ℤ (pos entries_by_degree *ℤ degree_of hs v)) v

pub record IsSmallClass (hs : List ℤ) (d : ℤ) (v : List ℤ) : Type 0 where
  pub entries : length v ≡ length hs
  pub positive : pos 1 ≤ℤ degree_of hs v
  pub within : degree_of hs v ≤ℤ d
  pub small : HasSmallEntries hs v

abbrev pub HasSmallClasses : Family ℤ → Type 0
HasSmallClasses f = (v : List ℤ) → Contains (classes f.rows) v → IsSmallClass f.heights f.top v

pub record AddsClasses (vs : List (List ℤ)) (f g : Family ℤ) : Type 0 where
  pub heights : g.heights ≡ f.heights
  pub top : g.top ≡ f.top
  pub upto : g.upto ≡ f.upto
  pub members : (u : List ℤ) → Contains (classes g.rows) u ↔ (Contains vs u ⊎ Contains (classes f.rows) u)

pub record IsClosedTo (f : Family ℤ) (d : ℤ) (g : Family ℤ) : Type 0 where
  pub heights : g.heights ≡ f.heights
  pub top : g.top ≡ f.top
  pub upto : g.upto ≡ pos 0
  pub each : (v : List ℤ) → Contains (classes g.rows) v → IsSmallClass f.heights d v
  pub sums : (u v : List ℤ) → Contains (classes g.rows) u → Contains (classes g.rows) v
      → (degree_of f.heights u +ℤ degree_of f.heights v) ≤ℤ d → Contains (classes g.rows) (plus u v)
  pub whole : (v : List ℤ) → Contains (classes f.rows) v → pos 1 ≤ℤ degree_of f.heights v → degree_of f.heights v ≤ℤ d
      → Contains (classes g.rows) v
