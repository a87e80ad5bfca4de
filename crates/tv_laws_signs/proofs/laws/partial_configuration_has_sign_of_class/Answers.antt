use Rattle.tv_laws_signs.proofs.PartialSigns.{partial_has_sign}
use Rattle.tv_laws_signs.proofs.laws.partial_configuration_has_sign_of_class.Goals as goal

pub returns : goal.returns
returns c = partial_has_sign
