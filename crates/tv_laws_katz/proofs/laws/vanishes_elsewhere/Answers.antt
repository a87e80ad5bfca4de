use Rattle.tv_laws_katz.proofs.Elsewhere.{vanishes_elsewhere}
use Rattle.tv_laws_katz.proofs.laws.vanishes_elsewhere.Goals as goal

pub returns : goal.returns
returns c = vanishes_elsewhere
