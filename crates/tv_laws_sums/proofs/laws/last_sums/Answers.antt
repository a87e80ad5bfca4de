use Rattle.tv_laws_sums.proofs.Last.{last-sums}
use Rattle.tv_laws_sums.proofs.laws.last_sums.Goals as goal

pub returns : goal.returns
returns c = last-sums
