use Rattle.tv_laws_katz.proofs.GatheredTerms.{gathered_sizes}
use Rattle.tv_laws_katz.proofs.laws.gathered_sizes.Goals as goal

pub returns : goal.returns
returns c = gathered_sizes
