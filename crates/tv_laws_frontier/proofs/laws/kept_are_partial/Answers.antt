use Rattle.tv_laws_frontier.proofs.PartialSums.{kept_are_partial}
use Rattle.tv_laws_frontier.proofs.laws.kept_are_partial.Goals as goal

pub returns : goal.returns
returns c = kept_are_partial
