use Rattle.tv_laws_orders.proofs.Told.{assignments_told}
use Rattle.tv_laws_orders.proofs.laws.assignments_told.Goals as goal

pub returns : goal.returns
returns c = assignments_told
