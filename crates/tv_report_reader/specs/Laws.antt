-- What makes the answer of the reader exact.
--
-- HasOneReading   == lines spell at most one report
-- HasOnePlace     == there is at most one first line with which no report goes on
-- HasOneFault     == bytes are refused for one reason at most
-- RefusesNoReport == bytes that are a report are not refused
use Rattle.std.specs.Prelude.{◌≡◌, ℕ, List}
use Rattle.tv_lattice.specs.declared.fault.ReportFault.{ReportFault}
use Rattle.tv_integers.specs.declared.report.Report.{Report}
use Rattle.tv_spec_text.specs.Places.{IsPlace}
use Rattle.tv_spec_text.specs.Lines.{Line}
use Rattle.tv_spec_reports.specs.Grammar.{GvData, SpellsGv, IsGv}
use Rattle.tv_report_reader.specs.declared.fault.ReportError.TheVariants.{Fault}
use Rattle.tv_report_reader.specs.Faults.{IsReport, IsReportFault}

abbrev pub HasOneReading : Type 0
HasOneReading = (ls : List Line) (c d : GvData) → SpellsGv ls c → SpellsGv ls d → c ≡ d

abbrev pub HasOnePlace : Type 0
HasOnePlace = (ls : List Line) (j k : ℕ) → IsPlace IsGv ls j → IsPlace IsGv ls k → j ≡ k

abbrev pub HasOneFault : Type 0
HasOneFault = (bytes : List ℕ) (f g : ReportFault) → IsReportFault bytes (Fault f) → IsReportFault bytes (Fault g) → f ≡ g

abbrev pub RefusesNoReport : Type 0
RefusesNoReport = (bytes : List ℕ) (r : Report) (f : ReportFault) → IsReport bytes r → IsReportFault bytes (Fault f) → ⊥
