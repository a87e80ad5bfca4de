use Rattle.tv_laws_orders.proofs.Told.{orders_tell_lists}
use Rattle.tv_laws_orders.proofs.laws.orders_tell_lists.Goals as goal

pub returns : goal.returns
returns c = orders_tell_lists
