use Rattle.tv_laws_orders.proofs.Told.{diagrams_told}
use Rattle.tv_laws_orders.proofs.laws.diagrams_told.Goals as goal

pub returns : goal.returns
returns c = diagrams_told
