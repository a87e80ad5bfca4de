use Rattle.tv_class_integers.proofs.NextClass.{difference_is_first}
use Rattle.tv_class_integers.proofs.laws.difference_is_first.Goals as goal

pub returns : goal.returns
returns c = difference_is_first
