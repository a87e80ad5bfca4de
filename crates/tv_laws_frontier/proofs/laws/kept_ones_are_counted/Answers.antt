use Rattle.tv_laws_frontier.proofs.KeptOnes.{kept_ones}
use Rattle.tv_laws_frontier.proofs.laws.kept_ones_are_counted.Goals as goal

pub returns : goal.returns
returns c = kept_ones
