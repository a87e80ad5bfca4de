use Rattle.tv_laws_frontier.proofs.PartialSums.{kept_are_counted}
use Rattle.tv_laws_frontier.proofs.laws.kept_are_counted.Goals as goal

pub returns : goal.returns
returns c = kept_are_counted
