use Rattle.tv_acceptance.proofs.AcceptedSigns.{accepted_sign}
use Rattle.tv_acceptance.proofs.laws.accepted_configuration_has_sign_of_class.Goals as goal

pub returns : goal.returns
returns c = accepted_sign
