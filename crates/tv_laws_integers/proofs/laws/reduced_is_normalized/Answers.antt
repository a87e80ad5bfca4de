use Rattle.tv_laws_integers.proofs.Proved.{reduced_is_normalized}
use Rattle.tv_laws_integers.proofs.laws.reduced_is_normalized.Goals as goal

pub returns : goal.returns
returns c = reduced_is_normalized
