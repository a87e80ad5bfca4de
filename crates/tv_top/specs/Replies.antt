-- What is to be told before it is told.
--
-- Stands P o                  == P is true of the status and the text of the outcome; or it is a listing that is ready, and P is
--                                true of each status and text that the command for it deserves
-- IsAnswered c w r            == the outcome is deserved by the command over this web; a failure is want of memory
-- Judges c bytes status text  == the status and the text are deserved by these bytes, all of the source
-- IsJudged c bytes r          == the outcome is so; a failure is want of memory
-- HasVerdict q r              == the answer is a verdict on the report q; a failure is want of memory
-- Checks bytes status text    == the status and the text are a verdict on a report that the bytes spell, or say why they are none
-- IsChecked bytes r           == the answer is so; a failure is want of memory
-- Fails ws io f               == the failure is one of reading that is deserved; or want of memory, and no read failed
-- Replies ws io r             == the outcome is deserved; a failure is as above
use Rattle.std.specs.Prelude.{◌≡◌, List, ℕ, Result, MatchResult}
use Rattle.tv_spec_plane.specs.Web.{Web}
use Rattle.tv_spec_text.specs.Lines.{Word, line_text}
use Rattle.tv_lattice.specs.declared.fault.FileFault.{FileFault}
use Rattle.tv_text.specs.Refusals.{fault_line}
use Rattle.tv_acceptance.specs.Acceptance.{IsAccepted}
use Rattle.tv_acceptance.specs.Rejections.{FaultOf}
use Rattle.tv_lattice.specs.declared.fault.ReportFault.{ReportFault}
use Rattle.tv_integers.specs.declared.report.Report.{Report}
use Rattle.tv_report_reader.specs.declared.fault.ReportError.TheVariants.{Fault as ReportRefusal}
use Rattle.tv_report_reader.specs.Faults.{IsReport as IsReportText, IsReportFault}
use Rattle.tv_top.specs.Verification.{IsVerdictOn, report_fault_line}
use Rattle.tv_answers.specs.Texts.{read_text}
use Rattle.tv_top.specs.Answers.{Change, Deserves, DeservesRead}
use Rattle.tv_words.specs.declared.command.Command.{Command}
use Rattle.tv_words.specs.declared.command.Command.TheVariants.{Boxes}
use Rattle.tv_answers.specs.declared.status.Status.{Status}
use Rattle.tv_answers.specs.declared.status.Status.TheVariants.{File}
use Rattle.tv_answers.specs.declared.answer.Answer.{Answer}
use Rattle.tv_answers.specs.declared.answer.Failure.{Failure}
use Rattle.tv_answers.specs.declared.answer.Outcome.{Outcome}
use Rattle.tv_answers.specs.declared.answer.Outcome.TheVariants.{Text, Pieces}
use Rattle.tv_answers.specs.declared.answer.Failure.TheVariants.{Memory, Read}
use Rattle.tv_answers.specs.Carried.{CarriesOut, IsReady}

abbrev pub Stands : (Status → List ℕ → Type 0) → Outcome → Type 0
Stands P (Text a) = P a.status a.text.items
Stands P (Pieces l) = IsReady l × ((s : Status) (text : List ℕ) → CarriesOut (Boxes l.chi l.class) l.web s text → P s text)

abbrev pub IsAnswered : Command → Web → Result Outcome Failure → Type 0
IsAnswered c w r = MatchResult r (Stands (CarriesOut c w)) (λ e. e ≡ Memory)

abbrev pub Judges : Command → List ℕ → Status → List ℕ → Type 0
Judges c bytes File text = (f : FileFault) × FaultOf bytes f × (text ≡ line_text (fault_line f))
Judges c bytes s text = (w : Web) × IsAccepted bytes w × CarriesOut c w s text

abbrev pub IsJudged : Command → List ℕ → Result Outcome Failure → Type 0
IsJudged c bytes r = MatchResult r (Stands (Judges c bytes)) (λ e. e ≡ Memory)

abbrev pub HasVerdict : Report → Result Answer Failure → Type 0
HasVerdict q r = MatchResult r (λ a. IsVerdictOn q a.status a.text.items) (λ e. e ≡ Memory)

abbrev pub Checks : List ℕ → Status → List ℕ → Type 0
Checks bytes File text = (f : ReportFault) × IsReportFault bytes (ReportRefusal f) × (text ≡ line_text (report_fault_line f))
Checks bytes s text = (q : Report) × IsReportText bytes q × IsVerdictOn q s text

abbrev pub IsChecked : List ℕ → Result Answer Failure → Type 0
IsChecked bytes r = MatchResult r (λ a. Checks bytes a.status a.text.items) (λ e. e ≡ Memory)

abbrev pub Fails : List Word → Change → Failure → Type 0
Fails ws io Memory = io.after.faults ≡ io.before.faults
Fails ws io Read = DeservesRead ws io read_text

abbrev pub Replies : List Word → Change → Result Outcome Failure → Type 0
Replies ws io r = MatchResult r (Stands (Deserves ws io)) (Fails ws io)
