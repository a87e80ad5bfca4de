use Rattle.tv_top.proofs.RejectedReply.{judged_refusal, judged_accepted}
use Rattle.tv_top.proofs.reply.judge.Goals as goal

pub returns-in-Err-Fault : goal.returns-in-Err-Fault
returns-in-Err-Fault c = judged_refusal c.args.command c.args.bytes.now c.in-Err-Fault.fault c.reject.result c.in_text.result c.in_text.ensures (rw c.in-Err-Fault.field-0-is at c.in-Err-Fault.ensures) c.reject.ensures

pub returns-in-Ok : goal.returns-in-Ok
returns-in-Ok c = judged_accepted c.args.command c.args.bytes.now c.in-Ok.web c.over_web.result c.in-Ok.ensures c.over_web.ensures
