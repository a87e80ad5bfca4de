use Rattle.std.proofs.Common.{◌≡◌, ◌+◌, ◌≤◌, List, ℕ, length, arith, ◌∙◌, subst}
use Rattle.tv_words.specs.Commands.{OfFile}
use Rattle.tv_top.specs.Replies.{IsJudged}
use Rattle.tv_spec_plane.specs.declared.limits.TheConstants.{MOST_BYTES}
use Rattle.tv_top.proofs.RejectedReply.{too_long_reply, judged_reply, command_reads, read_failed}
use Rattle.tv_top.proofs.reply.over_source.Goals as goal

pub returns-in-Err-TooLong-clause-deserved : goal.returns-in-Err-TooLong-clause-deserved
returns-in-Err-TooLong-clause-deserved g c = λ ws q.
    let takes = c.in-Err-TooLong.ensures in
    let outcome = rw c.in-Err-TooLong.field-0-is at takes.outcome in
    too_long_reply ws _ c.args.command takes.bytes _ _ c.in_text.ensures q c.requires.file takes.taken outcome.1 outcome.0 c.reject.ensures

pub returns-in-Err-TooLong-clause-reads : goal.returns-in-Err-TooLong-clause-reads
returns-in-Err-TooLong-clause-reads g c = λ ws q.
    let takes = c.in-Err-TooLong.ensures in
    let outcome = rw c.in-Err-TooLong.field-0-is at takes.outcome in
    let count = outcome.0 in
    let within : length takes.bytes ≤ MOST_BYTES + 1 = omega arith in
    command_reads ws _ c.args.command OfFile takes.bytes q c.requires.file tt takes.taken within takes.calls takes.later

pub returns-in-Err-Fault-clause-deserved : goal.returns-in-Err-Fault-clause-deserved
returns-in-Err-Fault-clause-deserved g c = λ ws q.
    let takes = c.in-Err-Fault.ensures in
    let outcome = rw c.in-Err-Fault.field-0-is at takes.outcome in
    read_failed ws _ c.args.command OfFile q c.requires.file tt outcome.1

pub returns-in-Err-Fault-clause-reads : goal.returns-in-Err-Fault-clause-reads
returns-in-Err-Fault-clause-reads g c = λ ws q.
    let takes = c.in-Err-Fault.ensures in
    let outcome = rw c.in-Err-Fault.field-0-is at takes.outcome in
    let count = outcome.0 in
    let within : length takes.bytes ≤ MOST_BYTES + 1 = omega arith in
    command_reads ws _ c.args.command OfFile takes.bytes q c.requires.file tt takes.taken within takes.calls takes.later

pub returns-in-Ok-clause-deserved : goal.returns-in-Ok-clause-deserved
returns-in-Ok-clause-deserved g c = λ ws q.
    let takes = c.in-Ok.ensures in
    let whole = takes.outcome in
    let judged = c.judge.ensures in
    let bytes : c.deref.result.now ≡ takes.bytes = c.deref.ensures.value ∙ whole.same in
    judged_reply ws _ c.args.command takes.bytes _ q c.requires.file (record { taken = takes.taken; ended = whole.ended; kept = whole.kept }) whole.within (subst (λ (bs : List ℕ). IsJudged c.args.command bs c.judge.result) bytes judged)

pub returns-in-Ok-clause-reads : goal.returns-in-Ok-clause-reads
returns-in-Ok-clause-reads g c = λ ws q.
    let takes = c.in-Ok.ensures in
    let count = takes.outcome.within in
    let within : length takes.bytes ≤ MOST_BYTES + 1 = omega arith in
    command_reads ws _ c.args.command OfFile takes.bytes q c.requires.file tt takes.taken within takes.calls takes.later

pub returns-clause-reads : goal.returns-clause-reads
returns-clause-reads g c = λ ws q.
    let takes = c.in-Err-Memory.ensures in
    let outcome = rw c.in-Err-Memory.field-0-is at takes.outcome in
    let count = outcome.0 in
    let within : length takes.bytes ≤ MOST_BYTES + 1 = omega arith in
    command_reads ws _ c.args.command OfFile takes.bytes q c.requires.file tt takes.taken within takes.calls takes.later
