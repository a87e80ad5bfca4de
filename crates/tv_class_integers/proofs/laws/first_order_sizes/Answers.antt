use Rattle.tv_class_integers.proofs.FirstOrder.{first_order_sizes}
use Rattle.tv_class_integers.proofs.laws.first_order_sizes.Goals as goal

pub returns : goal.returns
returns c = first_order_sizes
