use Rattle.tv_laws_sums.proofs.Left.{left-begins}
use Rattle.tv_laws_sums.proofs.laws.left_begins.Goals as goal

pub returns : goal.returns
returns c = left-begins
