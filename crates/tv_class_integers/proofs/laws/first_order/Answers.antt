use Rattle.tv_class_integers.proofs.FirstOrder.{first_order_sum}
use Rattle.tv_class_integers.proofs.laws.first_order.Goals as goal

pub returns : goal.returns
returns c = first_order_sum
