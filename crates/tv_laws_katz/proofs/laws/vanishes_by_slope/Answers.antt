use Rattle.tv_laws_katz.proofs.LargerBound.{vanishes_by_slope}
use Rattle.tv_laws_katz.proofs.laws.vanishes_by_slope.Goals as goal

pub returns : goal.returns
returns c = vanishes_by_slope
