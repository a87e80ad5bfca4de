use Rattle.tv_laws_frontier.proofs.Signed.{sign_of_state}
use Rattle.tv_laws_frontier.proofs.laws.states_have_signs.Goals as goal

pub returns : goal.returns
returns c = sign_of_state
