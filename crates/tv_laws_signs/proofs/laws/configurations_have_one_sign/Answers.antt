use Rattle.tv_laws_signs.proofs.Signs.{one_sign}
use Rattle.tv_laws_signs.proofs.laws.configurations_have_one_sign.Goals as goal

pub returns : goal.returns
returns c = one_sign
