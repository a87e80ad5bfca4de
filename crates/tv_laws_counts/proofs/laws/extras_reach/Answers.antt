use Rattle.tv_laws_counts.proofs.Reaching.{extras_within}
use Rattle.tv_laws_counts.proofs.laws.extras_reach.Goals as goal

pub returns : goal.returns
returns c = extras_within
