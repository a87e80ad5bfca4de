-- The replies to what was read.
use Rattle.std.proofs.Common.{◌≡◌, ℕ, ◌+◌, ◌≤◌, List, [], length, Option, Some, None, Result, Ok, Err, MatchResult, ℤ, inl, inr, refl, ap, sym, ◌∙◌, arith, subst}
use Rattle.std.specs.Io.KnownBytes.{Consumes}
use Rattle.tv_spec_plane.specs.Web.{Web}
use Rattle.tv_spec_text.specs.Lines.{Word, line_text}
use Rattle.tv_spec_text.proofs.Places.{IsPlace-none}
use Rattle.tv_lattice.specs.declared.fault.FileFault.{FileFault}
use Rattle.tv_lattice.specs.declared.fault.FileFault.TheVariants.{TooLong}
use Rattle.tv_answers.specs.declared.answer.Failure.TheVariants.{Memory}
use Rattle.tv_text.specs.Refusals.{fault_line}
use Rattle.tv_outside.specs.Seen.{Seen}
use Rattle.tv_outside.specs.Faults.{RoseOnce}
use Rattle.tv_spec_reports.specs.Grids.{grid}
use Rattle.tv_words.specs.Commands.{Subject, OfFile, OfGrid, OfReport, Asks, IsCommand, subject_of}
use Rattle.tv_acceptance.specs.Acceptance.{IsAccepted}
use Rattle.tv_acceptance.specs.Rejections.{FaultOf}
use Rattle.tv_answers.specs.Texts.{words_text, read_text}
use Rattle.tv_top.specs.Answers.{Change, Gave, IsOver, IsRead, most_bytes, Deserves, DeservesFile, DeservesRead, Reads}
use Rattle.tv_answers.specs.Carried.{CarriesOut, IsCarriedOut, in_text, Says}
use Rattle.tv_top.specs.Replies.{Stands, IsAnswered, Judges, IsJudged, Replies, Fails}
use Rattle.tv_words.specs.Commands.{IsOrder}
use Rattle.tv_answers.specs.Reports.{IsUnsuited}
use Rattle.tv_answers.specs.Boxes.{Suits}
use Rattle.tv_spec_plane.specs.declared.limits.TheConstants.{MOST_BYTES}
use Rattle.tv_words.specs.declared.command.Command.{Command}
use Rattle.tv_answers.specs.declared.answer.Answer.{Answer}
use Rattle.tv_answers.specs.declared.answer.Failure.{Failure}
use Rattle.tv_answers.specs.declared.answer.Listing.{Listing}
use Rattle.tv_answers.specs.declared.answer.Outcome.{Outcome}
use Rattle.tv_answers.specs.declared.answer.Outcome.TheVariants.{Text, Pieces}
use Rattle.tv_words.specs.declared.command.Command.TheVariants.{Boxes}
use Rattle.tv_words.proofs.SameCommand.{same_command}
use Rattle.tv_answers.specs.declared.status.Status.{Status}
use Rattle.tv_answers.specs.declared.status.Status.TheVariants.{Done, Words, File, Wide, Differs, Memory as MemoryStatus, ReadFault, WriteFault}

rejected_reply : (ws : List Word) (io : Change) (fault : FileFault) (r : Result Answer Failure) (o : Result Outcome Failure) → o ≡ in_text r → io.after.faults ≡ io.before.faults → Says r File (fault_line fault)
    → ((text : List ℕ) → text ≡ line_text (fault_line fault) → DeservesFile ws io text) → Replies ws io o
rejected_reply ws io fault (Ok a) o t kept h f = rw t (subst (λ s. Deserves ws io s a.text.items) (sym h.0) (inl (f a.text.items h.1)))
rejected_reply ws io fault (Err e) o t kept h f = rw t (subst (Fails ws io) (sym h) kept)

-- the refusal of an input of which 65,537 bytes were taken
pub too_long_reply : (ws : List Word) (io : Change) (c : Command) (bytes : List ℕ) (r : Result Answer Failure) (o : Result Outcome Failure) → o ≡ in_text r → Asks ws c → subject_of c ≡ OfFile → Consumes io.before.bytes io.after.bytes bytes → io.after.faults ≡ io.before.faults → length bytes ≡ MOST_BYTES + 1
    → Says r File (fault_line TooLong) → Replies ws io o
too_long_reply ws io c bytes r o t q file taken kept long h = rejected_reply ws io TooLong r o t kept h (λ text line. record { command = c; bytes = bytes; fault = TooLong; asked = q; file = file; taken = taken; ended = inl long; kept = kept; refused = omega arith; line = line })

-- a refusal of bytes
pub judged_refusal : (c : Command) (bytes : List ℕ) (fault : FileFault) (r : Result Answer Failure) (o : Result Outcome Failure) → o ≡ in_text r → FaultOf bytes fault → Says r File (fault_line fault) → IsJudged c bytes o
judged_refusal c bytes fault (Ok a) o t x h = rw t (subst (λ s. Judges c bytes s a.text.items) (sym h.0) (fault, x, h.1))
judged_refusal c bytes fault (Err e) o t x h = rw t h

judges : (c : Command) (bytes : List ℕ) (w : Web) (s : Status) (text : List ℕ) → IsAccepted bytes w → CarriesOut c w s text → Judges c bytes s text
judges c bytes w File text a h = absurd h
judges c bytes w Done text a h = (w, a, h)
judges c bytes w Wide text a h = (w, a, h)
judges c bytes w Words text a h = (w, a, h)
judges c bytes w Differs text a h = (w, a, h)
judges c bytes w MemoryStatus text a h = (w, a, h)
judges c bytes w ReadFault text a h = (w, a, h)
judges c bytes w WriteFault text a h = (w, a, h)

-- what is true of an outcome is true of it where it says less
stands-onto : (P Q : Status → List ℕ → Type 0) → ((s : Status) (text : List ℕ) → P s text → Q s text) → (o : Outcome) → Stands P o → Stands Q o
stands-onto P Q f (Text a) h = f a.status a.text.items h
stands-onto P Q f (Pieces l) h = (h.0, λ s text d. f s text (h.1 s text d))

-- what an accepted file gives
pub judged_accepted : (c : Command) (bytes : List ℕ) (w : Web) (r : Result Outcome Failure) → IsAccepted bytes w → IsAnswered c w r → IsJudged c bytes r
judged_accepted c bytes w (Ok o) acc h = stands-onto (CarriesOut c w) (Judges c bytes) (λ s text d. judges c bytes w s text acc d) o h
judged_accepted c bytes w (Err e) acc h = h

-- what a command gives over a web
pub text_answered : (c : Command) (w : Web) (r : Result Answer Failure) (o : Result Outcome Failure) → o ≡ in_text r → IsCarriedOut c w r → IsAnswered c w o
text_answered c w (Ok a) o t h = rw t h
text_answered c w (Err e) o t h = rw t h

pub unsuited_answered : (c : Command) (w : Web) (k : ℕ) (r : Result Answer Failure) (o : Result Outcome Failure) → o ≡ in_text r → IsUnsuited c w k
    → MatchResult r (λ a. (a.status ≡ Words) × (a.text.items ≡ words_text k)) (λ e. e ≡ Memory) → IsAnswered c w o
unsuited_answered c w k (Ok a) o t u h = rw t (subst (λ s. CarriesOut c w s a.text.items) (sym h.0) (k, u, h.1))
unsuited_answered c w k (Err e) o t u h = rw t h

pub listing_answered : (l : Listing) (chi : ℤ) (entries : List ℤ) → l.class ≡ entries → l.chi ≡ chi → Suits l.web l.class → IsOrder chi → IsAnswered (Boxes chi entries) l.web (Ok (Pieces l))
listing_answered l chi entries same order suits o =
    ((suits, subst IsOrder (sym order) o), λ s text d. subst (λ v. CarriesOut (Boxes chi v) l.web s text) same (subst (λ n. CarriesOut (Boxes n l.class) l.web s text) order d))

over_file : (subject : Subject) (io : Change) (bytes : List ℕ) (w : Web) → subject ≡ OfFile → Gave io bytes → IsAccepted bytes w → IsOver subject io w
over_file OfFile io bytes w e g a = (bytes, g, a)
over_file (OfGrid k) io bytes w e g a = cc
over_file OfReport io bytes w e g a = cc

deserves : (ws : List Word) (io : Change) (c : Command) (bytes : List ℕ) (s : Status) (text : List ℕ) → Asks ws c → subject_of c ≡ OfFile → Gave io bytes → length bytes ≤ MOST_BYTES → Judges c bytes s text → Deserves ws io s text
deserves ws io c bytes Done text q e g l h = inl (record { command = c; web = h.0; on = record { asked = q; over = over_file (subject_of c) io bytes h.0 e g h.1 }; report = h.2 })
deserves ws io c bytes Wide text q e g l h = inl (record { command = c; web = h.0; refusal = h.2.0; on = record { asked = q; over = over_file (subject_of c) io bytes h.0 e g h.1 }; wide = h.2.1; line = h.2.2 })
deserves ws io c bytes File text q e g l h = inl (record { command = c; bytes = bytes; fault = h.0; asked = q; file = e; taken = g.taken; ended = inr (l, g.ended); kept = g.kept; refused = h.1; line = h.2 })
deserves ws io c bytes Words text q e g l h = inr (record { command = c; web = h.0; place = h.2.0; on = record { asked = q; over = over_file (subject_of c) io bytes h.0 e g h.1 }; unsuited = h.2.1; line = h.2.2 })
deserves ws io c bytes Differs text q e g l h = inl (record { command = c; web = h.0; refusal = h.2.0; on = record { asked = q; over = over_file (subject_of c) io bytes h.0 e g h.1 }; differs = h.2.1; line = h.2.2 })
deserves ws io c bytes MemoryStatus text q e g l h = elim h.2 [
  | inl line ↦ inl (record { kept = g.kept; line = line })
  | inr begun ↦ inr (record { command = c; web = h.0; pieces = begun.0; on = record { asked = q; over = over_file (subject_of c) io bytes h.0 e g h.1 }; begun = begun.1; broken_off = begun.2 })
]
deserves ws io c bytes ReadFault text q e g l h = absurd h.2
deserves ws io c bytes WriteFault text q e g l h = absurd h.2

pub judged_reply : (ws : List Word) (io : Change) (c : Command) (bytes : List ℕ) (r : Result Outcome Failure) → Asks ws c → subject_of c ≡ OfFile → Gave io bytes → length bytes ≤ MOST_BYTES → IsJudged c bytes r → Replies ws io r
judged_reply ws io c bytes (Ok o) q e g l h = stands-onto (Judges c bytes) (Deserves ws io) (λ s text d. deserves ws io c bytes s text q e g l d) o h
judged_reply ws io c bytes (Err e) q file g l h = subst (Fails ws io) (sym h) g.kept

-- what a grid gives
grid_deserves : (ws : List Word) (s : Seen) (c : Command) (k : ℕ) (status : Status) (text : List ℕ) → Asks ws c → subject_of c ≡ OfGrid k → CarriesOut c (grid k) status text → Deserves ws (record { before = s; after = s }) status text
grid_deserves ws s c k Done text q e h = inl (record { command = c; web = grid k; on = record { asked = q; over = rw e (refl, refl) }; report = h })
grid_deserves ws s c k Wide text q e h = inl (record { command = c; web = grid k; refusal = h.0; on = record { asked = q; over = rw e (refl, refl) }; wide = h.1; line = h.2 })
grid_deserves ws s c k File text q e h = absurd h
grid_deserves ws s c k Words text q e h = inr (record { command = c; web = grid k; place = h.0; on = record { asked = q; over = rw e (refl, refl) }; unsuited = h.1; line = h.2 })
grid_deserves ws s c k Differs text q e h = inl (record { command = c; web = grid k; refusal = h.0; on = record { asked = q; over = rw e (refl, refl) }; differs = h.1; line = h.2 })
grid_deserves ws s c k MemoryStatus text q e h = elim h [
  | inl line ↦ inl (record { kept = refl; line = line })
  | inr begun ↦ inr (record { command = c; web = grid k; pieces = begun.0; on = record { asked = q; over = rw e (refl, refl) }; begun = begun.1; broken_off = begun.2 })
]
grid_deserves ws s c k ReadFault text q e h = absurd h
grid_deserves ws s c k WriteFault text q e h = absurd h

pub grid_reply : (ws : List Word) (s : Seen) (c : Command) (k : ℕ) (r : Result Answer Failure) (o : Result Outcome Failure) → o ≡ in_text r → Asks ws c → subject_of c ≡ OfGrid k → IsCarriedOut c (grid k) r → Replies ws (record { before = s; after = s }) o
grid_reply ws s c k (Ok a) o t q e h = rw t (grid_deserves ws s c k a.status a.text.items q e h)
grid_reply ws s c k (Err f) o t q e h = rw t (subst (Fails ws (record { before = s; after = s })) (sym h) refl)

-- what was taken for a command
other_side : (subject : Subject) (k : ℕ) → IsRead subject → subject ≡ OfGrid k → ⊥
other_side OfFile k read e = cc
other_side (OfGrid l) k read e = read
other_side OfReport k read e = cc

-- a file, or a report, was read
pub command_reads : (ws : List Word) (io : Change) (c : Command) (subject : Subject) (bytes : List ℕ) → Asks ws c → subject_of c ≡ subject → IsRead subject → Consumes io.before.bytes io.after.bytes bytes → length bytes ≤ most_bytes subject + 1 → io.after.calls ≤ io.before.calls + length bytes + 1 → io.before.faults ≤ io.after.faults → Reads ws io
command_reads ws io c subject bytes q is read taken within calls later = record {
  bytes = bytes;
  taken = taken;
  within = λ d r. subst (λ s. length bytes ≤ most_bytes s + 1) (sym is ∙ ap subject_of (same_command ws c d q r)) within;
  calls = calls;
  later = later;
  unread = λ k p. absurd (IsPlace-none IsCommand ws k (c, q) p);
  made = λ d k r e. absurd (other_side subject k read (sym is ∙ (ap subject_of (same_command ws c d q r) ∙ e)));
}

pub read_failed : (ws : List Word) (io : Change) (c : Command) (subject : Subject) → Asks ws c → subject_of c ≡ subject → IsRead subject → RoseOnce io.before.faults io.after.faults → DeservesRead ws io read_text
read_failed ws io c subject q is read rose = record { command = c; asked = q; read = subst IsRead (sym is) read; rose = rose; line = refl }

none_taken : (left : Option (List ℕ)) → Consumes left left []
none_taken None = tt
none_taken (Some xs) = refl

-- words that are refused, and commands about a grid, read nothing
pub nothing_read : (ws : List Word) (s : Seen) → Reads ws (record { before = s; after = s })
nothing_read ws s = record { bytes = []; taken = none_taken s.bytes; within = λ c q. omega arith; calls = omega arith; later = omega arith; unread = λ k p. refl; made = λ c k q e. refl }
