use Rattle.tv_class_integers.proofs.NextClass.{class_agrees}
use Rattle.tv_class_integers.proofs.laws.class_agrees.Goals as goal

pub returns : goal.returns
returns c = class_agrees
