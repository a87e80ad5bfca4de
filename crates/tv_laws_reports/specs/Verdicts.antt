-- What a report of integers tells when it is read back, and the verdict on it, as laws.
--
-- SeriesHaveTheirTerms == the series of rising terms that is known through N has, at each n at most N, the coefficient of the term
--                     at n, and 0 where there is none
-- FamiliesAreTold  == the family that the sections of a report tell has the coefficients of the reduced family of the web, at every
--                     class and at each n at most N, also where neither names the class
-- IntegersAreTold  == the integers that the sections tell, class by class, are the integers of the report, in their order
-- ReportsAreVerified == of the integers that are read back from the text of a report, Katz's product is the family that is read
--                     back with them
-- OnlyYesIsTold    == whatever verdict is right on what is read back is yes: nowhere do product and series differ
use Rattle.std.specs.Prelude.{◌≡◌, ℕ, ℤ, ◌≤ℤ◌, List}
use Rattle.tv_ring.specs.Whole.{wholes}
use Rattle.tv_spec_plane.specs.Web.{Web}
use Rattle.tv_spec_series.specs.Families.{coefficient_of, coefficient}
use Rattle.tv_spec_text.specs.Reports.{Term, Rises}
use Rattle.tv_spec_reports.specs.IntegersReport.{IsIntegersReport}
use Rattle.tv_integers.specs.declared.report.Report.{Report}
use Rattle.tv_report_reader.specs.Faults.{IsReport}
use Rattle.tv_report_reader.specs.Told.{value_at, series_of, family_of, integers_of}
use Rattle.tv_cert.specs.declared.verdict.Verdict.{Verdict}
use Rattle.tv_cert.specs.declared.verdict.Verdict.TheVariants.{Yes}
use Rattle.tv_cert.specs.Verified.{IsVerified, IsVerdict}
use Rattle.tv_laws_reports.specs.Laws.{IsReportable, report_data}

abbrev pub SeriesHaveTheirTerms : Type 0
SeriesHaveTheirTerms = (N : ℤ) (ts : List Term) (n : ℤ) → Rises ts → n ≤ℤ N → coefficient wholes (series_of N ts) n ≡ value_at ts n

abbrev pub FamiliesAreTold : Type 0
FamiliesAreTold = (w : Web) (D : ℕ) (N : ℤ) (text : List ℕ) (r : IsIntegersReport w D N text) (v : List ℤ) (n : ℤ) → n ≤ℤ N
    → coefficient_of wholes (family_of (report_data D N w.heights r.tells.sections)) v n ≡ coefficient_of wholes r.family v n

abbrev pub IntegersAreTold : Type 0
IntegersAreTold = (w : Web) (D : ℕ) (N : ℤ) (text : List ℕ) (r : IsIntegersReport w D N text)
    → integers_of r.tells.sections ≡ r.integers

abbrev pub ReportsAreVerified : Type 0
ReportsAreVerified = (w : Web) (D : ℕ) (N : ℤ) (text : List ℕ) → IsReportable w D N → IsIntegersReport w D N text
    → (q : Report) → IsReport text q → IsVerified q.series q.integers.integers

abbrev pub OnlyYesIsTold : Type 0
OnlyYesIsTold = (w : Web) (D : ℕ) (N : ℤ) (text : List ℕ) → IsReportable w D N → IsIntegersReport w D N text
    → (q : Report) → IsReport text q → (a : Verdict) → IsVerdict q.series q.integers.integers a → a ≡ Yes
