use Rattle.tv_laws_katz.proofs.LargerBound.{larger_factors}
use Rattle.tv_laws_katz.proofs.laws.larger_factors.Goals as goal

pub returns : goal.returns
returns c = larger_factors
