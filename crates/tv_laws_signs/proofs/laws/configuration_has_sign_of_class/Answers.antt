use Rattle.tv_laws_signs.proofs.Signs.{configuration_has_sign}
use Rattle.tv_laws_signs.proofs.laws.configuration_has_sign_of_class.Goals as goal

pub returns : goal.returns
returns c = configuration_has_sign
