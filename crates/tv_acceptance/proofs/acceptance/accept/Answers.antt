use Rattle.tv_acceptance.proofs.Sound.{accepted_or_refused, refused_by_form}
use Rattle.tv_acceptance.proofs.acceptance.accept.Goals as goal

pub returns-in-Ok : goal.returns-in-Ok
returns-in-Ok c = accepted_or_refused c.args.bytes.now c.in-Ok.file c.web_of.result c.in-Ok.ensures c.web_of.ensures

pub returns-in-Err : goal.returns-in-Err
returns-in-Err c = refused_by_form c.args.bytes.now c.in-Err.error c.in-Err.ensures
