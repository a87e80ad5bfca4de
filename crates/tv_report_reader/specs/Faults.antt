-- Why bytes are no report.
--
-- IsLineFault ls e      == e names the first line with which no report goes on, or is want of memory
-- IsReport bytes r      == as many bytes as a report may have, or fewer, spell a report of integers, and r has what it tells
-- IsReportFault bytes e == e is why the bytes are refused: their number, else the first line with which no report goes on; or
--                          e is want of memory
use Rattle.std.specs.Prelude.{◌≡◌, ℕ, suc, ◌<◌, ◌≤◌, List, length, ⊤}
use Rattle.tv_lattice.specs.declared.fault.ReportFault.TheVariants.{TooLong, Line}
use Rattle.tv_integers.specs.declared.report.Report.{Report}
use Rattle.tv_spec_text.specs.Places.{IsPlace}
use Rattle.tv_spec_text.specs.Lines.{Line as Words, word_lines}
use Rattle.tv_spec_reports.specs.Grammar.{GvData, SpellsGv, IsGv}
use Rattle.tv_report_reader.specs.declared.fault.ReportError.{ReportError}
use Rattle.tv_report_reader.specs.declared.fault.ReportError.TheVariants.{Fault, Memory}
use Rattle.tv_report_reader.specs.declared.limits.TheConstants.{MOST_REPORT_BYTES}
use Rattle.tv_report_reader.specs.Told.{IsTold}

-- lines are numbered from 1
abbrev pub IsLineFault : List Words → ReportError → Type 0
IsLineFault ls (Fault (Line n)) = (k : ℕ) × (n ≡ suc k) × IsPlace IsGv ls k
IsLineFault ls (Fault _) = ⊥
IsLineFault ls Memory = ⊤

abbrev pub IsReport : List ℕ → Report → Type 0
IsReport bytes r = (length bytes ≤ MOST_REPORT_BYTES) × ((d : GvData) × SpellsGv (word_lines bytes) d × IsTold d r)

abbrev pub IsReportFault : List ℕ → ReportError → Type 0
IsReportFault bytes (Fault TooLong) = MOST_REPORT_BYTES < length bytes
IsReportFault bytes (Fault (Line n)) = (length bytes ≤ MOST_REPORT_BYTES) × ((k : ℕ) × (n ≡ suc k) × IsPlace IsGv (word_lines bytes) k)
IsReportFault bytes Memory = ⊤
