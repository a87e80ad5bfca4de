-- What is extracted of a family of reduced series: its integers, or the reason why there are none.
--
-- degree_to f         == the greatest degree of the family
-- IsExtractable f     == through an exponent from 1 to 64, in degrees to at most 24, normalized, with classes of small entries
-- HasIntegers f k     == k has the heights and the integers of the family, and Katz's product over them agrees with the family
-- IsTooWide f v n     == at v and n the majorant of the family and its integers is beyond the limit
-- IsUnequal f v n series product == v and n are the first place at which the family and Katz's product over its integers
--                        differ: there these are their values
-- IsGvFault f fault   == the reason is such a place; want of memory needs none
use Rattle.std.specs.Prelude.{◌≡◌, ⊤, ℕ, ◌<◌, ℤ, pos, ◌≤ℤ◌, List}
use Rattle.std.specs.List.{AllByRecursion}
use Rattle.tv_lemmas.specs.Naturals.{as_natural}
use Rattle.tv_ring.specs.Operations.{limit}
use Rattle.tv_ring.specs.Whole.{wholes}
use Rattle.tv_spec_series.specs.Families.{Family, classes, coefficient_of}
use Rattle.tv_spec_katz.specs.Katz.{Integer, katz}
use Rattle.tv_spec_katz.specs.Integers.{IsCompared, Agrees, IsMismatch}
use Rattle.tv_spec_katz.specs.Relations.{IsNormalized, AreIntegers}
use Rattle.tv_spec_katz.specs.Majorant.{majorant}
pub use Rattle.tv_candidates.specs.Closing.{HasSmallEntries}
use Rattle.tv_integers.specs.Kept.{Kept}
use Rattle.tv_gv.specs.declared.fault.GvFault.{GvFault}
use Rattle.tv_gv.specs.declared.fault.GvFault.TheVariants.{Wide, Mismatch, Memory}

abbrev pub degree_to : Family ℤ → ℕ
degree_to f = as_natural f.top

pub record IsExtractable (f : Family ℤ) : Type 0 where
  pub least : pos 1 ≤ℤ f.upto
  pub most : f.upto ≤ℤ pos 64
  pub least_degree : pos 0 ≤ℤ f.top
  pub most_degree : f.top ≤ℤ pos 24
  pub normalized : IsNormalized f.upto f
  pub entries : AllByRecursion (HasSmallEntries f.heights) (classes f.rows)

pub record HasIntegers (f : Family ℤ) (k : Kept) : Type 0 where
  pub heights : k.heights ≡ f.heights
  pub are : AreIntegers (degree_to f) f k.integers
  pub agrees : (v : List ℤ) (n : ℤ) → IsCompared (degree_to f) f.upto f v n → Agrees f k.integers v n

pub record IsTooWide (f : Family ℤ) (v : List ℤ) (n : ℤ) : Type 0 where
  pub integers : List Integer
  pub are : AreIntegers (degree_to f) f integers
  pub wide : limit < majorant (degree_to f) f.upto f integers v n

pub record IsUnequal (f : Family ℤ) (v : List ℤ) (n series product : ℤ) : Type 0 where
  pub integers : List Integer
  pub are : AreIntegers (degree_to f) f integers
  pub mismatch : IsMismatch (degree_to f) f.upto f integers v n
  pub family : series ≡ coefficient_of wholes f v n
  pub katz : product ≡ katz f.heights integers v n

abbrev pub IsGvFault : Family ℤ → GvFault → Type 0
IsGvFault f (Wide v n) = IsTooWide f v n
IsGvFault f (Mismatch v n series product) = IsUnequal f v n series product
IsGvFault f Memory = ⊤
