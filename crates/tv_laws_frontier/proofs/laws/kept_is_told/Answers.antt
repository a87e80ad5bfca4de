use Rattle.tv_laws_frontier.proofs.KeptTest.{kept_is_told}
use Rattle.tv_laws_frontier.proofs.laws.kept_is_told.Goals as goal

pub returns : goal.returns
returns c = kept_is_told
