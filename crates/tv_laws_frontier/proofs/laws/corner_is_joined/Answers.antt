use Rattle.tv_laws_frontier.proofs.Step.{step_of_state}
use Rattle.tv_laws_frontier.proofs.laws.corner_is_joined.Goals as goal

pub returns : goal.returns
returns c = step_of_state
