use Rattle.tv_laws_orders.proofs.Least.{sets_by_least_cell}
use Rattle.tv_laws_orders.proofs.laws.sets_by_least_cell.Goals as goal

pub returns : goal.returns
returns c = sets_by_least_cell
