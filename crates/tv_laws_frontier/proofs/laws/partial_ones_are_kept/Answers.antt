use Rattle.tv_laws_frontier.proofs.KeptOnes.{through_are_kept}
use Rattle.tv_laws_frontier.proofs.laws.partial_ones_are_kept.Goals as goal

pub returns : goal.returns
returns c = through_are_kept
