use Rattle.tv_acceptance.proofs.GridWebs.{grid_accepted}
use Rattle.tv_acceptance.proofs.laws.grid_is_accepted.Goals as goal

pub returns : goal.returns
returns c = grid_accepted
