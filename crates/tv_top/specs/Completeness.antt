-- What a run must answer, where nothing fails. It follows from what each status deserves, and says which answers are left.
--
-- Completes ws io out result == where no count of faults rises (for `words` that of the sink):
--   accepted: a command and a web that it is about, of an accepted file that the source tells or of a grid, give Done, or Wide,
--             Differs or Words with its cause, or want of memory
--   unsuited: where the command asks of that web what doesn't suit it, they give Words, or want of memory
--   refused:  a command that is about a file, and told bytes that are refused, give File, or want of memory
--   words:    words that are no command give Words, or want of memory, whatever the source holds
--   checked:  `verify` and told bytes that spell a report give a verdict on it: Done, or Wide or Differs with its cause; or want
--             of memory
--   unread:   `verify` and told bytes that are no report give File, or want of memory
-- IsGiven subject io w == w is the web of the accepted file that the source tells, or that of the grid
-- NothingFails io out == no count of faults rose in the call, and none stood at its last number
use Rattle.std.specs.Prelude.{◌≡◌, ◌⊎◌, ℕ, List, Some}
use Rattle.tv_spec_plane.specs.Web.{Web}
use Rattle.tv_spec_text.specs.Lines.{Word, Line}
use Rattle.tv_spec_text.specs.Places.{IsPlace}
use Rattle.tv_lattice.specs.declared.fault.FileFault.{FileFault}
use Rattle.tv_lattice.specs.declared.fault.ReportFault.{ReportFault}
use Rattle.tv_integers.specs.declared.report.Report.{Report}
use Rattle.tv_report_reader.specs.declared.fault.ReportError.TheVariants.{Fault}
use Rattle.tv_report_reader.specs.Faults.{IsReport as IsReportText, IsReportFault}
use Rattle.tv_outside.specs.Faults.{Rose}
use Rattle.tv_spec_reports.specs.Grids.{grid}
use Rattle.tv_words.specs.Commands.{Subject, OfFile, OfGrid, OfReport, Asks, IsCommand, subject_of}
use Rattle.tv_acceptance.specs.Acceptance.{IsAccepted}
use Rattle.tv_answers.specs.Reports.{IsWide, IsDiffers, IsUnsuited}
use Rattle.tv_acceptance.specs.Rejections.{FaultOf}
use Rattle.tv_top.specs.Changes.{Change}
use Rattle.tv_top.specs.Verification.{IsVerdictOn}
use Rattle.tv_words.specs.declared.command.Command.{Command}
use Rattle.tv_words.specs.declared.command.Command.TheVariants.{Verify}
use Rattle.tv_answers.specs.declared.status.Status.{Status}
use Rattle.tv_answers.specs.declared.status.Status.TheVariants.{Done, Words, File, Wide, Differs, Memory}

abbrev pub IsGiven : Subject → Change → Web → Type 0
IsGiven OfFile io w = (bytes : List ℕ) × (io.before.bytes ≡ Some bytes) × IsAccepted bytes w
IsGiven (OfGrid side) io w = w ≡ grid side
IsGiven OfReport io w = ⊥

abbrev pub NothingFails : Change → Change → Type 0
NothingFails io out = (Rose io.before.faults io.after.faults → ⊥) × (Rose out.before.faults out.after.faults → ⊥)

pub record Completes (ws : List Word) (io : Change) (out : Change) (result : Status) : Type 0 where
  pub accepted : (c : Command) (w : Web) → Asks ws c → IsGiven (subject_of c) io w → NothingFails io out
      → (result ≡ Done) ⊎ (((result ≡ Wide) × ((line : Line) × IsWide c w line))
      ⊎ (((result ≡ Differs) × ((line : Line) × IsDiffers c w line))
      ⊎ (((result ≡ Words) × ((k : ℕ) × IsUnsuited c w k)) ⊎ (result ≡ Memory))))
  pub unsuited : (c : Command) (w : Web) (k : ℕ) → Asks ws c → IsGiven (subject_of c) io w → IsUnsuited c w k → NothingFails io out
      → (result ≡ Words) ⊎ (result ≡ Memory)
  pub refused : (c : Command) (bytes : List ℕ) (f : FileFault) → Asks ws c → subject_of c ≡ OfFile
      → io.before.bytes ≡ Some bytes → FaultOf bytes f → NothingFails io out → (result ≡ File) ⊎ (result ≡ Memory)
  pub checked : (bytes : List ℕ) (r : Report) → Asks ws Verify → io.before.bytes ≡ Some bytes → IsReportText bytes r
      → NothingFails io out → ((text : List ℕ) × IsVerdictOn r result text) ⊎ (result ≡ Memory)
  pub unread : (bytes : List ℕ) (f : ReportFault) → Asks ws Verify → io.before.bytes ≡ Some bytes → IsReportFault bytes (Fault f)
      → NothingFails io out → (result ≡ File) ⊎ (result ≡ Memory)
  pub words : (k : ℕ) → IsPlace IsCommand ws k → (Rose out.before.faults out.after.faults → ⊥)
      → (result ≡ Words) ⊎ (result ≡ Memory)
