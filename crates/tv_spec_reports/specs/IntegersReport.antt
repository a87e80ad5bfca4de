-- What the report of the integers says: of each class, in order, every coefficient of its reduced series other than 0 through N,
-- and every integer other than 0.
--
-- genus_value i       == the genus and the value of an integer
-- integers_of v is    == the integers of the class v other than 0, in the order of the list: genera rise in the list of a family
-- TellsClass f is s   == the section has the degree of its class, its terms through the exponent of the family, and the integers
--                        of the list that it has; each of these numbers is printable
-- TellsIntegers D f is text == the text is the report of the family and of these integers through degree D: a section for each of
--                        the family's classes, in order
-- IsIntegersReport w D N text == the text is the report of the reduced series of the web in degrees to D, through N, and of their
--                        integers, which stand at its classes; Katz's product over them has each coefficient of the family in
--                        these degrees, through N
use Rattle.std.specs.Prelude.{◌≡◌, Contains, ℕ, ℤ, pos, List, [], ◌∷◌, map, not, ◌&&◌, if◌then◌else◌}
use Rattle.std.specs.List.{AllByRecursion}
use Rattle.std.specs.Ordering.{int_eq}
use Rattle.tv_ring.specs.Whole.{wholes}
use Rattle.tv_spec_plane.specs.Web.{Web, degree_of}
use Rattle.tv_spec_boxes.specs.Assignments.{no_legs, same_vector}
use Rattle.tv_spec_series.specs.Families.{Family, classes, coefficient_of}
use Rattle.tv_spec_series.specs.ReducedFamilies.{IsReducedFamily}
use Rattle.tv_spec_katz.specs.Katz.{Integer}
use Rattle.tv_spec_katz.specs.Integers.{IsCompared, Agrees}
use Rattle.tv_spec_katz.specs.Relations.{AreIntegers}
use Rattle.tv_spec_text.specs.Reports.{AreTerms}
use Rattle.tv_spec_reports.specs.IntegerLines.{GenusValue, GvSection, HasSmallNumbers, gv_text}

abbrev pub genus_value : Integer → GenusValue
genus_value i = record { genus = i.genus; value = i.value }

abbrev pub integers_of : List ℤ → List Integer → List GenusValue
integers_of v [] = []
integers_of v (i ∷ is) = if same_vector i.class v && not (int_eq i.value (pos 0)) then genus_value i ∷ integers_of v is else integers_of v is

pub record TellsClass (f : Family ℤ) (is : List Integer) (s : GvSection) : Type 0 where
  pub degree : s.section.degree ≡ degree_of f.heights s.section.entries
  pub terms : AreTerms (coefficient_of wholes f s.section.entries) f.upto s.section.terms
  pub integers : s.integers ≡ integers_of s.section.entries is
  pub small : HasSmallNumbers s

pub record TellsIntegers (D : ℕ) (f : Family ℤ) (is : List Integer) (text : List ℕ) : Type 0 where
  pub sections : List GvSection
  pub classes : map (λ (s : GvSection). s.section.entries) sections ≡ classes f.rows
  pub each : AllByRecursion (TellsClass f is) sections
  pub printed : text ≡ gv_text f.heights (pos D) f.upto sections

pub record IsIntegersReport (w : Web) (D : ℕ) (N : ℤ) (text : List ℕ) : Type 0 where
  pub family : Family ℤ
  pub reduced : IsReducedFamily wholes w (no_legs w) D N family
  pub integers : List Integer
  pub are : AreIntegers D family integers
  pub told : AllByRecursion (λ i. Contains (classes family.rows) i.class) integers
  pub agrees : (v : List ℤ) (n : ℤ) → IsCompared D N family v n → Agrees family integers v n
  pub tells : TellsIntegers D family integers text
