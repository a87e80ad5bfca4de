use Rattle.tv_laws_frontier.proofs.First.{first_state}
use Rattle.tv_laws_frontier.proofs.laws.first_state_is_one.Goals as goal

pub returns : goal.returns
returns c = first_state
