use Rattle.tv_acceptance.proofs.Excluded.{accepted_or_fault}
use Rattle.tv_acceptance.proofs.laws.accepted_file_is_not_refused.Goals as goal

pub returns : goal.returns
returns c = accepted_or_fault
