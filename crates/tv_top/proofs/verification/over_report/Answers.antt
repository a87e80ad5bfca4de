use Rattle.std.proofs.Common.{◌≡◌, ◌+◌, ◌≤◌, List, ℕ, length, arith, ◌∙◌, subst, refl}
use Rattle.tv_report_reader.specs.declared.limits.TheConstants.{MOST_REPORT_BYTES}
use Rattle.tv_words.specs.Commands.{OfReport}
use Rattle.tv_top.specs.Replies.{IsChecked}
use Rattle.tv_words.specs.declared.command.Command.TheVariants.{Verify}
use Rattle.tv_top.proofs.RejectedReply.{command_reads, read_failed}
use Rattle.tv_top.proofs.CheckedReply.{long_reply, checked_reply}
use Rattle.tv_top.proofs.verification.over_report.Goals as goal

pub returns-in-Err-TooLong-clause-deserved : goal.returns-in-Err-TooLong-clause-deserved
returns-in-Err-TooLong-clause-deserved g c = λ ws q.
    let takes = c.in-Err-TooLong.ensures in
    let outcome = rw c.in-Err-TooLong.field-0-is at takes.outcome in
    long_reply ws _ takes.bytes _ _ c.in_text-in-Err-TooLong.ensures q takes.taken outcome.1 outcome.0 c.reject_report.ensures

pub returns-in-Err-TooLong-clause-reads : goal.returns-in-Err-TooLong-clause-reads
returns-in-Err-TooLong-clause-reads g c = λ ws q.
    let takes = c.in-Err-TooLong.ensures in
    let outcome = rw c.in-Err-TooLong.field-0-is at takes.outcome in
    let count = outcome.0 in
    let within : length takes.bytes ≤ MOST_REPORT_BYTES + 1 = omega arith in
    command_reads ws _ Verify OfReport takes.bytes q refl tt takes.taken within takes.calls takes.later

pub returns-in-Err-Fault-clause-deserved : goal.returns-in-Err-Fault-clause-deserved
returns-in-Err-Fault-clause-deserved g c = λ ws q.
    let takes = c.in-Err-Fault.ensures in
    let outcome = rw c.in-Err-Fault.field-0-is at takes.outcome in
    read_failed ws _ Verify OfReport q refl tt outcome.1

pub returns-in-Err-Fault-clause-reads : goal.returns-in-Err-Fault-clause-reads
returns-in-Err-Fault-clause-reads g c = λ ws q.
    let takes = c.in-Err-Fault.ensures in
    let outcome = rw c.in-Err-Fault.field-0-is at takes.outcome in
    let count = outcome.0 in
    let within : length takes.bytes ≤ MOST_REPORT_BYTES + 1 = omega arith in
    command_reads ws _ Verify OfReport takes.bytes q refl tt takes.taken within takes.calls takes.later

pub returns-in-Ok-clause-deserved : goal.returns-in-Ok-clause-deserved
returns-in-Ok-clause-deserved g c = λ ws q.
    let takes = c.in-Ok.ensures in
    let whole = takes.outcome in
    let bytes : c.deref.result.now ≡ takes.bytes = c.deref.ensures.value ∙ whole.same in
    checked_reply ws _ takes.bytes _ _ c.in_text.ensures q (record { taken = takes.taken; ended = whole.ended; kept = whole.kept }) whole.within
    (subst (λ (bs : List ℕ). IsChecked bs c.check_bytes.result) bytes c.check_bytes.ensures)

pub returns-in-Ok-clause-reads : goal.returns-in-Ok-clause-reads
returns-in-Ok-clause-reads g c = λ ws q.
    let takes = c.in-Ok.ensures in
    let count = takes.outcome.within in
    let within : length takes.bytes ≤ MOST_REPORT_BYTES + 1 = omega arith in
    command_reads ws _ Verify OfReport takes.bytes q refl tt takes.taken within takes.calls takes.later

pub returns-in-Err-Memory-clause-reads : goal.returns-in-Err-Memory-clause-reads
returns-in-Err-Memory-clause-reads g c = λ ws q.
    let takes = c.in-Err-Memory.ensures in
    let outcome = rw c.in-Err-Memory.field-0-is at takes.outcome in
    let count = outcome.0 in
    let within : length takes.bytes ≤ MOST_REPORT_BYTES + 1 = omega arith in
    command_reads ws _ Verify OfReport takes.bytes q refl tt takes.taken within takes.calls takes.later
