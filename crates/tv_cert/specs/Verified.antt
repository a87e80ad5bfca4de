-- What is found of a report: a family of reduced series f and the integers that it claims to have.
--
-- IsCheckable f k     == the series are such that integers can be extracted, and the integers stand under the same heights, at classes
--                        of degrees to the greatest one with small entries
-- IsVerified f is     == Katz's product over the integers is the family: at every class of a degree to the greatest, also where
--                        neither names it, at every exponent through the last one
-- IsFirstDifferenceOf f is v n x y == v and n are the first place at which they differ: the family has x there, the product y
-- IsVerdict f is verdict == the verdict says which of both it is
-- IsTooWideReport f is v n == the majorant of the report at v and n is beyond 2^127 - 1
-- IsCertFault f is fault == the majorant of the report is beyond the limit at that place; want of memory needs no reason
use Rattle.std.specs.Prelude.{◌≡◌, ⊤, ◌<◌, ℤ, ◌≤ℤ◌, List}
use Rattle.std.specs.List.{AllByRecursion}
use Rattle.tv_ring.specs.Operations.{limit}
use Rattle.tv_ring.specs.Whole.{wholes}
use Rattle.tv_spec_plane.specs.Web.{degree_of}
use Rattle.tv_spec_series.specs.Families.{Family, coefficient_of}
use Rattle.tv_spec_katz.specs.Katz.{Integer, katz}
use Rattle.tv_spec_katz.specs.Integers.{IsCompared, Agrees, IsMismatch}
use Rattle.tv_spec_katz.specs.Majorant.{majorant}
use Rattle.tv_integers.specs.Kept.{Kept}
use Rattle.tv_candidates.specs.Closing.{HasSmallEntries}
use Rattle.tv_gv.specs.Extracted.{IsExtractable, degree_to}
use Rattle.tv_cert.specs.declared.fault.CertFault.{CertFault}
use Rattle.tv_cert.specs.declared.fault.CertFault.TheVariants.{Wide, Memory}
use Rattle.tv_cert.specs.declared.verdict.Verdict.{Verdict}
use Rattle.tv_cert.specs.declared.verdict.Verdict.TheVariants.{Yes, Differs as DiffersAt}

pub record IsCheckable (f : Family ℤ) (k : Kept) : Type 0 where
  pub extractable : IsExtractable f
  pub heights : k.heights ≡ f.heights
  pub within : AllByRecursion (λ (i : Integer). degree_of f.heights i.class ≤ℤ f.top) k.integers
  pub entries : AllByRecursion (λ (i : Integer). HasSmallEntries f.heights i.class) k.integers

abbrev pub IsVerified : Family ℤ → List Integer → Type 0
IsVerified f is = (v : List ℤ) (n : ℤ) → IsCompared (degree_to f) f.upto f v n → Agrees f is v n

pub record IsFirstDifferenceOf (f : Family ℤ) (is : List Integer) (v : List ℤ) (n x y : ℤ) : Type 0 where
  pub mismatch : IsMismatch (degree_to f) f.upto f is v n
  pub series : x ≡ coefficient_of wholes f v n
  pub product : y ≡ katz f.heights is v n

abbrev pub IsVerdict : Family ℤ → List Integer → Verdict → Type 0
IsVerdict f is Yes = IsVerified f is
IsVerdict f is (DiffersAt v n x y) = IsFirstDifferenceOf f is v n x y

abbrev pub IsTooWideReport : Family ℤ → List Integer → List ℤ → ℤ → Type 0
IsTooWideReport f is v n = limit < majorant (degree_to f) f.upto f is v n

abbrev pub IsCertFault : Family ℤ → List Integer → CertFault → Type 0
IsCertFault f is (Wide v n) = IsTooWideReport f is v n
IsCertFault f is Memory = ⊤
