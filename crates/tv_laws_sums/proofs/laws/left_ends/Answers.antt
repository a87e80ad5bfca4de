use Rattle.tv_laws_sums.proofs.Left.{left-ends}
use Rattle.tv_laws_sums.proofs.laws.left_ends.Goals as goal

pub returns : goal.returns
returns c = left-ends
