use Rattle.tv_laws_sums.proofs.Both.{last-spends}
use Rattle.tv_laws_sums.proofs.laws.last_spends.Goals as goal

pub returns : goal.returns
returns c = last-spends
