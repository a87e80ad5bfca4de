-- The reports of series: every class of degree at most D that some assignment has, in order, and every coefficient other
-- than 0 through N. The whole form tells the coefficients. The form by residues tells the remainders of each coefficient, and
-- comes only where a bound of the work passes 2^127 - 1.
--
-- IsFullSection w upto s     == the class with its degree, and the terms through upto of its full series, of the signed
--                               counts of the box configurations of the class
-- IsReducedSection w upto s  == the class with its degree, and the terms through upto of its reduced series: that whose
--                               product with the full series of class zero is the full series of the class
-- IsReportOf P title w d upto text == text is the report with that title and a section for each class of w in degree at most
--                               d, of which P holds
-- IsSection kind w upto s    == the one or the other, by the kind of series
-- IsSeriesReport kind w d upto text == text is the report of the series of that kind, through upto
-- IsFullByResidues, IsReducedByResidues w upto s == the same of remainders: those of the signed counts, those of the reduced series
-- IsReportByResidues P title w d upto text == text is the report by residues with that title and a section for each class of w in
--                               degree at most d, of which P holds
-- IsSectionByResidues, IsSeriesByResidues kind .. == the one or the other, by the kind of series
-- IsCrowded w d upto v       == some assignment of degree at most d has the class v, and its crowd in the full series is
--                               beyond 2^127 - 1
-- IsSpreadOut w d upto v m   == some assignment of degree at most d has the class v, and the sizes that meet at m in the
--                               division of its series add up to more than 2^127 - 1
-- IsSeriesWide kind w d upto == a bound of the work on the series of that kind passes 2^127 - 1. The bounds are this project's
--                               own: one may pass it though each coefficient is small
-- IsSeriesAnswer kind w d upto text == text is the report in the whole form; or by residues, and a bound passes 2^127 - 1
use Rattle.std.specs.Prelude.{◌≡◌, ◌⊎◌, ℕ, ℤ, pos, List, map, ◌-◌, ◌^◌, ◌<◌}
use Rattle.std.specs.List.{AllByRecursion}
use Rattle.tv_spec_plane.specs.Web.{Web, degree_of}
use Rattle.tv_spec_boxes.specs.Assignments.{no_legs}
use Rattle.tv_spec_boxes.specs.Classes.{IsClass, AreClasses}
use Rattle.tv_spec_boxes.specs.Numbers.{crowd}
use Rattle.tv_spec_series.specs.Reduced.{full_coefficient, IsReduced, IsSpread}
use Rattle.tv_spec_text.specs.Lines.{Word}
use Rattle.tv_spec_text.specs.Reports.{Section, AreTerms, series_text, IsSmall}
use Rattle.tv_spec_reports.specs.Residues.{ResidueSection, AreResidueTerms, residues_text}
use Rattle.tv_text.specs.declared.series.Kind.{Kind}
use Rattle.tv_text.specs.declared.series.Kind.TheVariants.{Full, Reduced}
use Rattle.tv_text.specs.Sections.{kind_word}

pub record IsFullSection (w : Web) (upto : ℤ) (s : Section) : Type 0 where
  pub degree : s.degree ≡ degree_of w.heights s.entries
  pub terms : AreTerms (full_coefficient w (no_legs w) s.entries) upto s.terms
  pub small : IsSmall s

pub record IsReducedSection (w : Web) (upto : ℤ) (s : Section) : Type 0 where
  pub degree : s.degree ≡ degree_of w.heights s.entries
  pub series : ℤ → ℤ
  pub reduced : IsReduced w (no_legs w) upto s.entries series
  pub terms : AreTerms series upto s.terms
  pub small : IsSmall s

pub record IsReportOf (P : Section → Type 0) (title : Word) (w : Web) (d : ℕ) (upto : ℤ) (text : List ℕ) : Type 0 where
  pub sections : List Section
  pub classes : AreClasses w d (map (λ (s : Section). s.entries) sections)
  pub each : AllByRecursion P sections
  pub printed : text ≡ series_text title w.heights (pos d) upto sections

abbrev pub IsSection : Kind → Web → ℤ → Section → Type 0
IsSection Full w upto s = IsFullSection w upto s
IsSection Reduced w upto s = IsReducedSection w upto s

abbrev pub IsSeriesReport : Kind → Web → ℕ → ℤ → List ℕ → Type 0
IsSeriesReport kind w d upto text = IsReportOf (IsSection kind w upto) (kind_word kind) w d upto text

pub record IsFullByResidues (w : Web) (upto : ℤ) (s : ResidueSection) : Type 0 where
  pub degree : s.degree ≡ degree_of w.heights s.entries
  pub terms : AreResidueTerms (full_coefficient w (no_legs w) s.entries) upto s.terms

pub record IsReducedByResidues (w : Web) (upto : ℤ) (s : ResidueSection) : Type 0 where
  pub degree : s.degree ≡ degree_of w.heights s.entries
  pub series : ℤ → ℤ
  pub reduced : IsReduced w (no_legs w) upto s.entries series
  pub terms : AreResidueTerms series upto s.terms

pub record IsReportByResidues (P : ResidueSection → Type 0) (title : Word) (w : Web) (d : ℕ) (upto : ℤ) (text : List ℕ) : Type 0 where
  pub sections : List ResidueSection
  pub classes : AreClasses w d (map (λ (s : ResidueSection). s.entries) sections)
  pub each : AllByRecursion P sections
  pub printed : text ≡ residues_text title w.heights (pos d) upto sections

abbrev pub IsSectionByResidues : Kind → Web → ℤ → ResidueSection → Type 0
IsSectionByResidues Full w upto s = IsFullByResidues w upto s
IsSectionByResidues Reduced w upto s = IsReducedByResidues w upto s

abbrev pub IsSeriesByResidues : Kind → Web → ℕ → ℤ → List ℕ → Type 0
IsSeriesByResidues kind w d upto text = IsReportByResidues (IsSectionByResidues kind w upto) (kind_word kind) w d upto text

pub record IsCrowded (w : Web) (d : ℕ) (upto : ℤ) (v : List ℤ) : Type 0 where
  pub class : IsClass w d v
  pub beyond : 2 ^ 127 - 1 < crowd w (no_legs w) d upto v

pub record IsSpreadOut (w : Web) (d : ℕ) (upto : ℤ) (v : List ℤ) (m : ℤ) : Type 0 where
  pub class : IsClass w d v
  pub number : ℕ
  pub spread : IsSpread w (no_legs w) upto v m number
  pub beyond : 2 ^ 127 - 1 < number

abbrev pub IsSeriesWide : Kind → Web → ℕ → ℤ → Type 0
IsSeriesWide Full w d upto = (v : List ℤ) × IsCrowded w d upto v
IsSeriesWide Reduced w d upto = ((v : List ℤ) × IsCrowded w d upto v) ⊎ ((v : List ℤ) × ((m : ℤ) × IsSpreadOut w d upto v m))

abbrev pub IsSeriesAnswer : Kind → Web → ℕ → ℤ → List ℕ → Type 0
IsSeriesAnswer kind w d upto text =
    IsSeriesReport kind w d upto text ⊎ (IsSeriesByResidues kind w d upto text × IsSeriesWide kind w d upto)
