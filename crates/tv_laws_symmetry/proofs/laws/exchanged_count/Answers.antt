use Rattle.tv_laws_symmetry.proofs.Exchanges.{exchanged_count}
use Rattle.tv_laws_symmetry.proofs.laws.exchanged_count.Goals as goal

pub returns : goal.returns
returns c = exchanged_count
