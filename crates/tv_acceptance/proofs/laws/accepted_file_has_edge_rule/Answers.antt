use Rattle.tv_acceptance.proofs.AcceptedSigns.{accepted_rule}
use Rattle.tv_acceptance.proofs.laws.accepted_file_has_edge_rule.Goals as goal

pub returns : goal.returns
returns c = accepted_rule
