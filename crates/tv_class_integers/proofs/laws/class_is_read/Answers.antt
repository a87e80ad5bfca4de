use Rattle.tv_class_integers.proofs.NextClass.{class_is_read}
use Rattle.tv_class_integers.proofs.laws.class_is_read.Goals as goal

pub returns : goal.returns
returns c = class_is_read
