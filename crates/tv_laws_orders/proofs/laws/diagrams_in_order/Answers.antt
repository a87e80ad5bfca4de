use Rattle.tv_laws_orders.proofs.Diagrams.{diagrams_in_order}
use Rattle.tv_laws_orders.proofs.laws.diagrams_in_order.Goals as goal

pub returns : goal.returns
returns c = diagrams_in_order
