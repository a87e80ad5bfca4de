use Rattle.tv_laws_frontier.proofs.Whole.{whole_is_state}
use Rattle.tv_laws_frontier.proofs.laws.whole_is_state.Goals as goal

pub returns : goal.returns
returns c = whole_is_state
