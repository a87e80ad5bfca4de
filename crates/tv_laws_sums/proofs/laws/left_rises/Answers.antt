use Rattle.tv_laws_sums.proofs.Left.{left-rises}
use Rattle.tv_laws_sums.proofs.laws.left_rises.Goals as goal

pub returns : goal.returns
returns c = left-rises
