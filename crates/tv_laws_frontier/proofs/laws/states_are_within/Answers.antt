use Rattle.tv_laws_frontier.proofs.Signed.{state_within}
use Rattle.tv_laws_frontier.proofs.laws.states_are_within.Goals as goal

pub returns : goal.returns
returns c = state_within
