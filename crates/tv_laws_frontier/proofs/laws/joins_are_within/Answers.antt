use Rattle.tv_laws_frontier.proofs.Degrees.{joins_within}
use Rattle.tv_laws_frontier.proofs.laws.joins_are_within.Goals as goal

pub returns : goal.returns
returns c = joins_within
