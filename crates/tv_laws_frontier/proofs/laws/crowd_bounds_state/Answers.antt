use Rattle.tv_laws_frontier.proofs.Crowded.{crowd_of_state}
use Rattle.tv_laws_frontier.proofs.laws.crowd_bounds_state.Goals as goal

pub returns : goal.returns
returns c = crowd_of_state
