use Rattle.tv_laws_orders.proofs.Chosen.{configurations_in_order}
use Rattle.tv_laws_orders.proofs.laws.configurations_in_order.Goals as goal

pub returns : goal.returns
returns c = configurations_in_order
