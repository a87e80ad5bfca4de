use Rattle.tv_laws_katz.proofs.TermSizes.{size_of_katz}
use Rattle.tv_laws_katz.proofs.laws.size_of_katz.Goals as goal

pub returns : goal.returns
returns c = size_of_katz
