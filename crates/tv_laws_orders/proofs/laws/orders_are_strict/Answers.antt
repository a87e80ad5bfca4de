use Rattle.tv_laws_orders.proofs.Strict.{orders_are_strict}
use Rattle.tv_laws_orders.proofs.laws.orders_are_strict.Goals as goal

pub returns : goal.returns
returns c = orders_are_strict
