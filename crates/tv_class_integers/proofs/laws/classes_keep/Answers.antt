use Rattle.tv_class_integers.proofs.NextClass.{classes_keep}
use Rattle.tv_class_integers.proofs.laws.classes_keep.Goals as goal

pub returns : goal.returns
returns c = classes_keep
