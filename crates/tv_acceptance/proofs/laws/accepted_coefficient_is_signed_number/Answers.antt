use Rattle.tv_acceptance.proofs.AcceptedSigns.{accepted_number}
use Rattle.tv_acceptance.proofs.laws.accepted_coefficient_is_signed_number.Goals as goal

pub returns : goal.returns
returns c = accepted_number
