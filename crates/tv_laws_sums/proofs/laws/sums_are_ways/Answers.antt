use Rattle.tv_laws_sums.proofs.Last.{sums-are-ways}
use Rattle.tv_laws_sums.proofs.laws.sums_are_ways.Goals as goal

pub returns : goal.returns
returns c = sums-are-ways
