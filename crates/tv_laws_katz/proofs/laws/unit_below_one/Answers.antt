use Rattle.tv_laws_katz.proofs.Elsewhere.{unit_below_one}
use Rattle.tv_laws_katz.proofs.laws.unit_below_one.Goals as goal

pub returns : goal.returns
returns c = unit_below_one
