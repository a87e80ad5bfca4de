use Rattle.tv_class_integers.proofs.Majorants.{size_is_majorant}
use Rattle.tv_class_integers.proofs.laws.size_is_majorant.Goals as goal

pub returns : goal.returns
returns c = size_is_majorant
