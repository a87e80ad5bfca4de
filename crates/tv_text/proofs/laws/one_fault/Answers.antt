use Rattle.tv_text.proofs.Exact.{IsTextFault-unique}
use Rattle.tv_text.proofs.laws.one_fault.Goals as goal

pub returns : goal.returns
returns c = IsTextFault-unique
