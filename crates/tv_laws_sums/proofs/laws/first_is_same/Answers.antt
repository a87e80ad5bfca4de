use Rattle.tv_laws_sums.proofs.Both.{first-is-same}
use Rattle.tv_laws_sums.proofs.laws.first_is_same.Goals as goal

pub returns : goal.returns
returns c = first-is-same
