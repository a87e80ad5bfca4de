use Rattle.tv_class_integers.proofs.NextClass.{product_is_read}
use Rattle.tv_class_integers.proofs.laws.product_is_read.Goals as goal

pub returns : goal.returns
returns c = product_is_read
