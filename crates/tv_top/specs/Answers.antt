-- What a run answers: for each status what is deserved, and how the text was told.
--
-- IsOver subject io w      == w is the web of the file that was read, which is accepted; or that of the grid, and nothing was
--                             read; a report has no web
-- IsRead subject           == it is read from the source: a file, or a report
-- most_bytes subject       == the most bytes that it may have there
-- IsOn ws io c w           == the words ask for the command c, and w is the web that it is about
-- DeservesDone ws io text  == the text is the report of the command on that web
-- DeservesWords ws io text == the text names the place at which the words leave every word list
-- DeservesClass ws io text == the words ask for what doesn't suit that web, and the text names the place of the words that shows it
-- DeservesFile ws io text  == the command is about a file, and the text names the first check that it fails, of which all bytes
--                             were taken, or exactly MOST_BYTES + 1
-- DeservesWide ws io text  == the text names a bound of the command's work on that web that passes 2^127 - 1
-- DeservesDiffers ws io text == the text names the first place at which the product over the integers of the reduced series of
--                             that web and these series differ, with both values
-- DeservesRead ws io text  == the command is about a file or a report, one read failed, and the text is that of a failed read
-- DeservesMemory io text   == no read failed, and the text is that of want of memory
-- DeservesBegun ws io text == the command tells its report on that web piece by piece, and the text is that of the first whole
--                             pieces, followed by that of want of memory
-- Deserves ws io status text == the status and its text are deserved by these words and this source
-- Told out text status result == a beginning of the text was appended to the sink, in at most a write for each byte: all of
--                             it, and the result is the status; or less, then one write failed, and it is WriteFault
-- Reads ws io             == whatever is answered, bytes were taken from the source, from the front, in at most one read more than
--                             bytes: where the words ask for a command, at most one more than its file or report may have.
--                             Nothing was read where the words are refused, or where the command is about a grid
-- Answers ws io out result == some status and text are deserved, and were told. A source or a sink that doesn't tell its bytes
--                             is seen as None, of which every statement on bytes holds; a run can't tell it from one that
--                             does. Want of memory is deserved wherever no read failed; where the report is told piece by
--                             piece, it may come in place of each piece
use Rattle.std.specs.Prelude.{◌≡◌, ℕ, ◌+◌, ◌≤◌, ◌⊎◌, List, ◌++◌, length, take, ⊤}
use Rattle.std.specs.Io.KnownBytes.{Appends, Consumes, IsAtEnd}
use Rattle.tv_spec_plane.specs.Web.{Web}
use Rattle.tv_spec_text.specs.Lines.{Word, Line, line_text}
use Rattle.tv_spec_text.specs.Places.{IsPlace}
use Rattle.tv_lattice.specs.declared.fault.FileFault.{FileFault}
use Rattle.tv_spec_reports.specs.Grids.{grid}
use Rattle.tv_text.specs.Refusals.{fault_line}
use Rattle.tv_outside.specs.Faults.{RoseOnce}
use Rattle.tv_outside.specs.Writing.{GivesAll, GivesPart}
use Rattle.tv_words.specs.Commands.{Subject, OfFile, OfGrid, OfReport, Asks, IsCommand, subject_of}
use Rattle.tv_answers.specs.Texts.{memory_text, read_text, words_text}
use Rattle.tv_acceptance.specs.Acceptance.{IsAccepted}
use Rattle.tv_acceptance.specs.Rejections.{FaultOf}
use Rattle.tv_answers.specs.Reports.{IsReport, IsWide, IsDiffers, IsUnsuited, IsBegun}
use Rattle.tv_spec_plane.specs.declared.limits.TheConstants.{MOST_BYTES}
use Rattle.tv_report_reader.specs.declared.limits.TheConstants.{MOST_REPORT_BYTES}
pub use Rattle.tv_top.specs.Changes.{Change, Gave}
use Rattle.tv_top.specs.Verification.{DeservesVerdict, DeservesReportFault}
use Rattle.tv_words.specs.declared.command.Command.{Command}
use Rattle.tv_answers.specs.declared.status.Status.{Status}
use Rattle.tv_answers.specs.declared.status.Status.TheVariants.{Done, Words, File, Wide, Differs, Memory, ReadFault, WriteFault}

abbrev pub IsOver : Subject → Change → Web → Type 0
IsOver OfFile io w = (bytes : List ℕ) × Gave io bytes × IsAccepted bytes w
IsOver (OfGrid side) io w = (io.after ≡ io.before) × (w ≡ grid side)
IsOver OfReport io w = ⊥

abbrev pub IsRead : Subject → Type 0
IsRead OfFile = ⊤
IsRead (OfGrid side) = ⊥
IsRead OfReport = ⊤

abbrev pub most_bytes : Subject → ℕ
most_bytes OfFile = MOST_BYTES
most_bytes (OfGrid side) = 0
most_bytes OfReport = MOST_REPORT_BYTES

pub record IsOn (ws : List Word) (io : Change) (command : Command) (web : Web) : Type 0 where
  pub asked : Asks ws command
  pub over : IsOver (subject_of command) io web

pub record DeservesDone (ws : List Word) (io : Change) (text : List ℕ) : Type 0 where
  pub command : Command
  pub web : Web
  pub on : IsOn ws io command web
  pub report : IsReport command web text

pub record DeservesWords (ws : List Word) (io : Change) (text : List ℕ) : Type 0 where
  pub place : ℕ
  pub outside : IsPlace IsCommand ws place
  pub line : text ≡ words_text place

pub record DeservesClass (ws : List Word) (io : Change) (text : List ℕ) : Type 0 where
  pub command : Command
  pub web : Web
  pub place : ℕ
  pub on : IsOn ws io command web
  pub unsuited : IsUnsuited command web place
  pub line : text ≡ words_text place

pub record DeservesFile (ws : List Word) (io : Change) (text : List ℕ) : Type 0 where
  pub command : Command
  pub bytes : List ℕ
  pub fault : FileFault
  pub asked : Asks ws command
  pub file : subject_of command ≡ OfFile
  pub taken : Consumes io.before.bytes io.after.bytes bytes
  pub ended : (length bytes ≡ MOST_BYTES + 1) ⊎ ((length bytes ≤ MOST_BYTES) × IsAtEnd io.after.bytes)
  pub kept : io.after.faults ≡ io.before.faults
  pub refused : FaultOf bytes fault
  pub line : text ≡ line_text (fault_line fault)

pub record DeservesWide (ws : List Word) (io : Change) (text : List ℕ) : Type 0 where
  pub command : Command
  pub web : Web
  pub refusal : Line
  pub on : IsOn ws io command web
  pub wide : IsWide command web refusal
  pub line : text ≡ line_text refusal

pub record DeservesDiffers (ws : List Word) (io : Change) (text : List ℕ) : Type 0 where
  pub command : Command
  pub web : Web
  pub refusal : Line
  pub on : IsOn ws io command web
  pub differs : IsDiffers command web refusal
  pub line : text ≡ line_text refusal

pub record DeservesRead (ws : List Word) (io : Change) (text : List ℕ) : Type 0 where
  pub command : Command
  pub asked : Asks ws command
  pub read : IsRead (subject_of command)
  pub rose : RoseOnce io.before.faults io.after.faults
  pub line : text ≡ read_text

pub record DeservesMemory (io : Change) (text : List ℕ) : Type 0 where
  pub kept : io.after.faults ≡ io.before.faults
  pub line : text ≡ memory_text

pub record DeservesBegun (ws : List Word) (io : Change) (text : List ℕ) : Type 0 where
  pub command : Command
  pub web : Web
  pub pieces : List ℕ
  pub on : IsOn ws io command web
  pub begun : IsBegun command web pieces
  pub broken_off : text ≡ pieces ++ memory_text

abbrev pub Deserves : List Word → Change → Status → List ℕ → Type 0
Deserves ws io Done text = DeservesDone ws io text ⊎ DeservesVerdict ws io Done text
Deserves ws io Words text = DeservesWords ws io text ⊎ DeservesClass ws io text
Deserves ws io File text = DeservesFile ws io text ⊎ DeservesReportFault ws io text
Deserves ws io Wide text = DeservesWide ws io text ⊎ DeservesVerdict ws io Wide text
Deserves ws io Differs text = DeservesDiffers ws io text ⊎ DeservesVerdict ws io Differs text
Deserves ws io Memory text = DeservesMemory io text ⊎ DeservesBegun ws io text
Deserves ws io ReadFault text = DeservesRead ws io text
Deserves ws io _ text = ⊥

pub record Told (out : Change) (text : List ℕ) (status result : Status) : Type 0 where
  pub count : ℕ
  pub appended : Appends out.before.bytes out.after.bytes (take count text)
  pub ends : ((result ≡ status) × GivesAll out.before out.after count text)
      ⊎ ((result ≡ WriteFault) × GivesPart out.before out.after count text)

pub record Reads (ws : List Word) (io : Change) : Type 0 where
  pub bytes : List ℕ
  pub taken : Consumes io.before.bytes io.after.bytes bytes
  pub within : (c : Command) → Asks ws c → length bytes ≤ most_bytes (subject_of c) + 1
  pub calls : io.after.calls ≤ io.before.calls + length bytes + 1
  pub later : io.before.faults ≤ io.after.faults
  pub unread : (k : ℕ) → IsPlace IsCommand ws k → io.after ≡ io.before
  pub made : (c : Command) (side : ℕ) → Asks ws c → subject_of c ≡ OfGrid side → io.after ≡ io.before

pub record Answers (ws : List Word) (io : Change) (out : Change) (result : Status) : Type 0 where
  pub status : Status
  pub text : List ℕ
  pub deserved : Deserves ws io status text
  pub reads : Reads ws io
  pub told : Told out text status result
