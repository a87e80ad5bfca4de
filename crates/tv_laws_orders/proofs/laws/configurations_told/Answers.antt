use Rattle.tv_laws_orders.proofs.Told.{configurations_told}
use Rattle.tv_laws_orders.proofs.laws.configurations_told.Goals as goal

pub returns : goal.returns
returns c = configurations_told
