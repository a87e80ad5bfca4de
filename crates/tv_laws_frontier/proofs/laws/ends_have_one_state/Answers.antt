use Rattle.tv_laws_frontier.proofs.StateClasses.{end_states}
use Rattle.tv_laws_frontier.proofs.laws.ends_have_one_state.Goals as goal

pub returns : goal.returns
returns c = end_states
