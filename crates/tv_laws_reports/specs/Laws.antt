-- What is true of printed reports of integers, as laws.
--
-- ReadsAs ls d     == the lines spell the report d, and no other
-- SectionsReadBack == the text of each report that fits the grammar reads back as that report
-- HasShortNumbers s == each entry, exponent and genus of the section has at most nine digits
-- IsAsked D N      == the degree is at most 24, and the order is from 1 to 64
-- HasReportSizes D N hs ss == degree and order are asked so, there are from 1 to 64 heights, each at most 1000000 in absolute
--                     value, and each section has short numbers
-- report_data D N hs ss == the report of these heights, degree, order and sections
-- ReportsReadBack  == the text of each report of the integers of a graded web with a height for each point reads back as the
--                     report of its own sections, where its sizes are these
-- IsReportable w D N == the web is within the limits of files, has at least one point and a height for each, and each compact
--                     edge has its rule and a degree of at least 1; degree and order are asked so
-- AllReportsReadBack == so does the text of each report of the integers of such a web in degrees to D, through N: its sizes are
--                     always these
-- OnlyLengthIsRefused == of such a text nothing can be refused but that it is longer than a report may be
use Rattle.std.specs.Prelude.{◌≡◌, ℕ, ◌≤◌, ℤ, pos, ◌≤ℤ◌, List, length, unsigned_abs}
use Rattle.std.specs.List.{AllByRecursion}
use Rattle.tv_spec_plane.specs.Web.{Web}
use Rattle.tv_spec_plane.specs.Graded.{IsGraded}
use Rattle.tv_lattice.specs.Limits.{IsWithinLimits}
use Rattle.tv_lattice.specs.declared.fault.ReportFault.{ReportFault}
use Rattle.tv_lattice.specs.declared.fault.ReportFault.TheVariants.{TooLong}
use Rattle.tv_laws_edges.specs.Rule.{HasEdgeRule}
use Rattle.tv_spec_text.specs.Lines.{Line, IsNumber, IsCount, word_lines}
use Rattle.tv_spec_reports.specs.IntegerLines.{GvSection, gv_text}
use Rattle.tv_spec_reports.specs.IntegersReport.{IsIntegersReport}
use Rattle.tv_spec_reports.specs.Grammar.{GvData, GvFits, SpellsGv}
use Rattle.tv_report_reader.specs.declared.fault.ReportError.TheVariants.{Fault}
use Rattle.tv_report_reader.specs.Faults.{IsReportFault}

pub record ReadsAs (ls : List Line) (d : GvData) : Type 0 where
  pub spells : SpellsGv ls d
  pub only : (c : GvData) → SpellsGv ls c → c ≡ d

abbrev pub SectionsReadBack : Type 0
SectionsReadBack = (d : GvData) → GvFits d → ReadsAs (word_lines (gv_text d.heights d.degree d.upto d.sections)) d

pub record HasShortNumbers (s : GvSection) : Type 0 where
  pub entries : AllByRecursion IsNumber s.section.entries
  pub exponents : AllByRecursion (λ t. IsNumber t.exponent) s.section.terms
  pub genera : AllByRecursion (λ i. IsCount i.genus) s.integers

pub record IsAsked (D : ℕ) (N : ℤ) : Type 0 where
  pub degree : D ≤ 24
  pub least : pos 1 ≤ℤ N
  pub greatest : N ≤ℤ pos 64

pub record HasReportSizes (D : ℕ) (N : ℤ) (hs : List ℤ) (ss : List GvSection) : Type 0 where
  pub some : 1 ≤ length hs
  pub few : length hs ≤ 64
  pub heights : AllByRecursion (λ h. unsigned_abs h ≤ 1000000) hs
  pub asked : IsAsked D N
  pub numbers : AllByRecursion HasShortNumbers ss

abbrev pub report_data : ℕ → ℤ → List ℤ → List GvSection → GvData
report_data D N hs ss = record { heights = hs; degree = pos D; upto = N; sections = ss }

abbrev pub ReportsReadBack : Type 0
ReportsReadBack = (w : Web) (D : ℕ) (N : ℤ) (text : List ℕ) → IsGraded w → length w.heights ≡ length w.points
    → (r : IsIntegersReport w D N text) → HasReportSizes D N w.heights r.tells.sections
    → ReadsAs (word_lines text) (report_data D N w.heights r.tells.sections)

pub record IsReportable (w : Web) (D : ℕ) (N : ℤ) : Type 0 where
  pub within : IsWithinLimits w
  pub some : 1 ≤ length w.points
  pub heights : length w.heights ≡ length w.points
  pub rule : HasEdgeRule w
  pub graded : IsGraded w
  pub asked : IsAsked D N

abbrev pub AllReportsReadBack : Type 0
AllReportsReadBack = (w : Web) (D : ℕ) (N : ℤ) (text : List ℕ) → IsReportable w D N → (r : IsIntegersReport w D N text)
    → ReadsAs (word_lines text) (report_data D N w.heights r.tells.sections)

abbrev pub OnlyLengthIsRefused : Type 0
OnlyLengthIsRefused = (w : Web) (D : ℕ) (N : ℤ) (text : List ℕ) → IsReportable w D N → IsIntegersReport w D N text
    → (f : ReportFault) → IsReportFault text (Fault f) → f ≡ TooLong
