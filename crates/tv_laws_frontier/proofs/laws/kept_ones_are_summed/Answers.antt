use Rattle.tv_laws_frontier.proofs.KeptOnes.{kept_ones_signed}
use Rattle.tv_laws_frontier.proofs.laws.kept_ones_are_summed.Goals as goal

pub returns : goal.returns
returns c = kept_ones_signed
