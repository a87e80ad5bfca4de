-- The replies to a report that was read.
use Rattle.std.proofs.Common.{◌≡◌, ℕ, ◌+◌, ◌≤◌, ◌<◌, ℤ, List, length, Result, Ok, Err, inl, inr, refl, sym, arith, subst}
use Rattle.std.specs.Io.KnownBytes.{Consumes}
use Rattle.tv_lattice.specs.declared.fault.ReportFault.{ReportFault}
use Rattle.tv_lattice.specs.declared.fault.ReportFault.TheVariants.{TooLong}
use Rattle.tv_integers.specs.declared.report.Report.{Report}
use Rattle.tv_cert.specs.Verified.{IsVerified, IsFirstDifferenceOf, IsTooWideReport}
use Rattle.tv_spec_text.specs.Lines.{Word}
use Rattle.tv_spec_text.specs.Reports.{IsPrintable}
use Rattle.tv_spec_reports.specs.Verdicts.{verdict_text}
use Rattle.tv_text.specs.Refusals.{majorant_line, differs_line}
use Rattle.tv_report_reader.specs.declared.limits.TheConstants.{MOST_REPORT_BYTES}
use Rattle.tv_report_reader.specs.declared.fault.ReportError.TheVariants.{Fault}
use Rattle.tv_report_reader.specs.Faults.{IsReport, IsReportFault}
use Rattle.tv_words.specs.Commands.{Asks}
use Rattle.tv_top.specs.Answers.{Change, Gave, Deserves}
use Rattle.tv_top.specs.Verification.{report_fault_line, IsVerdictOn}
use Rattle.tv_answers.specs.Carried.{in_text, Says, SaysText}
use Rattle.tv_top.specs.Replies.{HasVerdict, Checks, IsChecked, Replies, Fails}
use Rattle.tv_words.specs.declared.command.Command.TheVariants.{Verify}
use Rattle.tv_answers.specs.declared.answer.Answer.{Answer}
use Rattle.tv_answers.specs.declared.answer.Failure.{Failure}
use Rattle.tv_answers.specs.declared.answer.Outcome.{Outcome}
use Rattle.tv_answers.specs.declared.status.Status.{Status}
use Rattle.tv_answers.specs.declared.status.Status.TheVariants.{Done, Words, File, Wide, Differs, Memory, ReadFault, WriteFault}

-- what is said of a report

pub verified_found : (q : Report) (r : Result Answer Failure) → IsVerified q.series q.integers.integers → SaysText r Done verdict_text → HasVerdict q r
verified_found q (Ok a) v h = subst (λ s. IsVerdictOn q s a.text.items) (sym h.0) (v, h.1)
verified_found q (Err e) v h = h

pub beyond_found : (q : Report) (v : List ℤ) (m : ℤ) (r : Result Answer Failure) → IsTooWideReport q.series q.integers.integers v m → Says r Wide (majorant_line m v) → HasVerdict q r
beyond_found q v m (Ok a) x h = subst (λ s. IsVerdictOn q s a.text.items) (sym h.0) (majorant_line m v, record { class = v; exponent = m; beyond = x; same = refl }, h.1)
beyond_found q v m (Err e) x h = h

pub difference_found : (q : Report) (v : List ℤ) (m x y : ℤ) (r : Result Answer Failure) → IsFirstDifferenceOf q.series q.integers.integers v m x y → IsPrintable x → IsPrintable y → Says r Differs (differs_line m x y v) → HasVerdict q r
difference_found q v m x y (Ok a) first small_x small_y h = subst (λ s. IsVerdictOn q s a.text.items) (sym h.0)
    (differs_line m x y v, record { class = v; exponent = m; series = x; product = y; first = first; series_small = small_x; product_small = small_y; same = refl }, h.1)
difference_found q v m x y (Err e) first small_x small_y h = h

-- what is said of bytes

pub refusal_checked : (bytes : List ℕ) (f : ReportFault) (r : Result Answer Failure) → IsReportFault bytes (Fault f) → Says r File (report_fault_line f) → IsChecked bytes r
refusal_checked bytes f (Ok a) x h = subst (λ s. Checks bytes s a.text.items) (sym h.0) (f, x, h.1)
refusal_checked bytes f (Err e) x h = h

checks : (bytes : List ℕ) (q : Report) (s : Status) (text : List ℕ) → IsReport bytes q → IsVerdictOn q s text → Checks bytes s text
checks bytes q File text is h = absurd h
checks bytes q Done text is h = (q, is, h)
checks bytes q Wide text is h = (q, is, h)
checks bytes q Words text is h = absurd h
checks bytes q Differs text is h = (q, is, h)
checks bytes q Memory text is h = absurd h
checks bytes q ReadFault text is h = absurd h
checks bytes q WriteFault text is h = absurd h

pub verdict_checked : (bytes : List ℕ) (q : Report) (r : Result Answer Failure) → IsReport bytes q → HasVerdict q r → IsChecked bytes r
verdict_checked bytes q (Ok a) is h = checks bytes q a.status a.text.items is h
verdict_checked bytes q (Err e) is h = h

-- what a source deserves

pub long_reply : (ws : List Word) (io : Change) (bytes : List ℕ) (r : Result Answer Failure) (o : Result Outcome Failure) → o ≡ in_text r → Asks ws Verify → Consumes io.before.bytes io.after.bytes bytes → io.after.faults ≡ io.before.faults → length bytes ≡ MOST_REPORT_BYTES + 1
    → Says r File (report_fault_line TooLong) → Replies ws io o
long_reply ws io bytes (Ok a) o t q taken kept long h =
    let more : MOST_REPORT_BYTES < length bytes = omega arith in
    rw t (subst (λ s. Deserves ws io s a.text.items) (sym h.0) (inr (record { bytes = bytes; fault = TooLong; asked = q; taken = taken; ended = inl long; kept = kept; refused = more; line = h.1 })))
long_reply ws io bytes (Err e) o t q taken kept long h = rw t (subst (Fails ws io) (sym h) kept)

deserves : (ws : List Word) (io : Change) (bytes : List ℕ) (s : Status) (text : List ℕ) → Asks ws Verify → Gave io bytes → length bytes ≤ MOST_REPORT_BYTES → Checks bytes s text → Deserves ws io s text
deserves ws io bytes Done text q g l h = inr (record { report = h.0; on = record { asked = q; bytes = bytes; gave = g; read = h.1 }; verdict = h.2 })
deserves ws io bytes Wide text q g l h = inr (record { report = h.0; on = record { asked = q; bytes = bytes; gave = g; read = h.1 }; verdict = h.2 })
deserves ws io bytes Differs text q g l h = inr (record { report = h.0; on = record { asked = q; bytes = bytes; gave = g; read = h.1 }; verdict = h.2 })
deserves ws io bytes File text q g l h = inr (record { bytes = bytes; fault = h.0; asked = q; taken = g.taken; ended = inr (l, g.ended); kept = g.kept; refused = h.1; line = h.2 })
deserves ws io bytes Words text q g l h = absurd h.2
deserves ws io bytes Memory text q g l h = absurd h.2
deserves ws io bytes ReadFault text q g l h = absurd h.2
deserves ws io bytes WriteFault text q g l h = absurd h.2

pub checked_reply : (ws : List Word) (io : Change) (bytes : List ℕ) (r : Result Answer Failure) (o : Result Outcome Failure) → o ≡ in_text r → Asks ws Verify → Gave io bytes → length bytes ≤ MOST_REPORT_BYTES → IsChecked bytes r → Replies ws io o
checked_reply ws io bytes (Ok a) o t q g l h = rw t (deserves ws io bytes a.status a.text.items q g l h)
checked_reply ws io bytes (Err e) o t q g l h = rw t (subst (Fails ws io) (sym h) g.kept)
