use Rattle.tv_acceptance.proofs.AcceptedSigns.{accepted_size}
use Rattle.tv_acceptance.proofs.laws.accepted_coefficient_has_size_of_number.Goals as goal

pub returns : goal.returns
returns c = accepted_size
