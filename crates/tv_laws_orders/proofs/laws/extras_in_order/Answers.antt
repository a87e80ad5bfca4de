use Rattle.tv_laws_orders.proofs.Sets.{extras_in_order}
use Rattle.tv_laws_orders.proofs.laws.extras_in_order.Goals as goal

pub returns : goal.returns
returns c = extras_in_order
