use Rattle.tv_laws_sums.proofs.Left.{left-steps}
use Rattle.tv_laws_sums.proofs.laws.left_steps.Goals as goal

pub returns : goal.returns
returns c = left-steps
