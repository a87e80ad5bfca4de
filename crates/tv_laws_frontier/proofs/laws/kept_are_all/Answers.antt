use Rattle.tv_laws_frontier.proofs.Kept.{kept_are_all}
use Rattle.tv_laws_frontier.proofs.laws.kept_are_all.Goals as goal

pub returns : goal.returns
returns c = kept_are_all
