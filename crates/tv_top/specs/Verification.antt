-- What a run of `verify` answers: what is found of the report that it reads, or why there is none.
--
-- report_fault_line f      == the line of a report that is refused
-- IsMajorantLineOf r line  == the line names a class and an exponent at which the majorant of the report r is beyond 2^127 - 1
-- IsDifferenceLineOf r line == the line names the first place at which Katz's product over the integers of the report r and its
--                             series differ, with both values; both are printable
-- IsVerdictOn r status text == the text says yes, and Katz's product over the integers of the report r is its series; or it is such
--                             a line
-- IsOnReport ws io r       == the words ask for `verify`, all bytes of the source were taken, and they spell the report r
-- DeservesVerdict ws io status text == they spell some report, and status and text are a verdict on it
-- DeservesReportFault ws io text == the words ask for `verify`, and the text says why the bytes are no report, of which all were
--                             taken, or exactly MOST_REPORT_BYTES + 1
use Rattle.std.specs.Prelude.{◌≡◌, ◌⊎◌, ℕ, ◌+◌, ◌≤◌, ℤ, List, length}
use Rattle.std.specs.Io.KnownBytes.{Consumes, IsAtEnd}
use Rattle.tv_lattice.specs.declared.fault.ReportFault.{ReportFault}
use Rattle.tv_lattice.specs.declared.fault.ReportFault.TheVariants.{TooLong, Line as AtLine}
use Rattle.tv_integers.specs.declared.report.Report.{Report}
use Rattle.tv_cert.specs.Verified.{IsVerified, IsFirstDifferenceOf, IsTooWideReport}
use Rattle.tv_spec_text.specs.Lines.{Word, Line, line_text}
use Rattle.tv_spec_text.specs.Reports.{IsPrintable}
use Rattle.tv_text.specs.Refusals.{majorant_line, differs_line}
use Rattle.tv_spec_reports.specs.Verdicts.{verdict_text, long_report_line, report_line}
use Rattle.tv_report_reader.specs.declared.limits.TheConstants.{MOST_REPORT_BYTES}
use Rattle.tv_report_reader.specs.declared.fault.ReportError.TheVariants.{Fault}
use Rattle.tv_report_reader.specs.Faults.{IsReport, IsReportFault}
use Rattle.tv_words.specs.Commands.{Asks}
use Rattle.tv_top.specs.Changes.{Change, Gave}
use Rattle.tv_words.specs.declared.command.Command.TheVariants.{Verify}
use Rattle.tv_answers.specs.declared.status.Status.{Status}
use Rattle.tv_answers.specs.declared.status.Status.TheVariants.{Done, Wide, Differs}

abbrev pub report_fault_line : ReportFault → Line
report_fault_line TooLong = long_report_line
report_fault_line (AtLine n) = report_line n

pub record IsMajorantLineOf (r : Report) (line : Line) : Type 0 where
  pub class : List ℤ
  pub exponent : ℤ
  pub beyond : IsTooWideReport r.series r.integers.integers class exponent
  pub same : line ≡ majorant_line exponent class

pub record IsDifferenceLineOf (r : Report) (line : Line) : Type 0 where
  pub class : List ℤ
  pub exponent : ℤ
  pub series : ℤ
  pub product : ℤ
  pub first : IsFirstDifferenceOf r.series r.integers.integers class exponent series product
  pub series_small : IsPrintable series
  pub product_small : IsPrintable product
  pub same : line ≡ differs_line exponent series product class

abbrev pub IsVerdictOn : Report → Status → List ℕ → Type 0
IsVerdictOn r Done text = IsVerified r.series r.integers.integers × (text ≡ verdict_text)
IsVerdictOn r Wide text = (line : Line) × IsMajorantLineOf r line × (text ≡ line_text line)
IsVerdictOn r Differs text = (line : Line) × IsDifferenceLineOf r line × (text ≡ line_text line)
IsVerdictOn r _ text = ⊥

pub record IsOnReport (ws : List Word) (io : Change) (r : Report) : Type 0 where
  pub asked : Asks ws Verify
  pub bytes : List ℕ
  pub gave : Gave io bytes
  pub read : IsReport bytes r

pub record DeservesVerdict (ws : List Word) (io : Change) (status : Status) (text : List ℕ) : Type 0 where
  pub report : Report
  pub on : IsOnReport ws io report
  pub verdict : IsVerdictOn report status text

pub record DeservesReportFault (ws : List Word) (io : Change) (text : List ℕ) : Type 0 where
  pub bytes : List ℕ
  pub fault : ReportFault
  pub asked : Asks ws Verify
  pub taken : Consumes io.before.bytes io.after.bytes bytes
  pub ended : (length bytes ≡ MOST_REPORT_BYTES + 1) ⊎ ((length bytes ≤ MOST_REPORT_BYTES) × IsAtEnd io.after.bytes)
  pub kept : io.after.faults ≡ io.before.faults
  pub refused : IsReportFault bytes (Fault fault)
  pub line : text ≡ line_text (report_fault_line fault)
