use Rattle.tv_laws_families.proofs.Lowest.{nothing_below}
use Rattle.tv_laws_families.proofs.laws.nothing_below_the_lowest.Goals as goal

pub returns : goal.returns
returns c = nothing_below
