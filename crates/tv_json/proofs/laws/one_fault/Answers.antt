use Rattle.tv_json.proofs.Exact.{IsJsonFault-unique}
use Rattle.tv_json.proofs.laws.one_fault.Goals as goal

pub returns : goal.returns
returns c = IsJsonFault-unique
