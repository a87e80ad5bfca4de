use Rattle.tv_laws_orders.proofs.Chosen.{assignments_in_order}
use Rattle.tv_laws_orders.proofs.laws.assignments_in_order.Goals as goal

pub returns : goal.returns
returns c = assignments_in_order
