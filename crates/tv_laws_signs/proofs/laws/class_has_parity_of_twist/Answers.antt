use Rattle.tv_laws_signs.proofs.EvenSums.{twist_parity}
use Rattle.tv_laws_signs.proofs.laws.class_has_parity_of_twist.Goals as goal

pub returns : goal.returns
returns c = twist_parity
