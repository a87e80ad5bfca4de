use Rattle.tv_top.proofs.Checkable.{report_checkable}
use Rattle.tv_top.proofs.CheckedReply.{refusal_checked, verdict_checked}
use Rattle.tv_top.proofs.verification.check_bytes.Goals as goal

pub verdict_on-requires : goal.verdict_on-requires
verdict_on-requires c = record { checkable = report_checkable c.args.bytes.now c.in-Ok.report c.in-Ok.ensures }

pub returns-in-Err-Fault : goal.returns-in-Err-Fault
returns-in-Err-Fault c = refusal_checked c.args.bytes.now c.in-Err-Fault.fault c.reject_report.result (rw c.in-Err-Fault.field-0-is at c.in-Err-Fault.ensures) c.reject_report.ensures

pub returns-in-Ok : goal.returns-in-Ok
returns-in-Ok c = verdict_checked c.args.bytes.now c.in-Ok.report c.verdict_on.result c.in-Ok.ensures c.verdict_on.ensures
