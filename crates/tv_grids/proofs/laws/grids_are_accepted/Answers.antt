use Rattle.tv_grids.proofs.Passing.{grids_accepted}
use Rattle.tv_grids.proofs.laws.grids_are_accepted.Goals as goal

pub returns : goal.returns
returns c = grids_accepted
