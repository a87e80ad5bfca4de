use Rattle.tv_laws_integers.proofs.Proved.{mismatch_first}
use Rattle.tv_laws_integers.proofs.laws.mismatch_first.Goals as goal

pub returns : goal.returns
returns c = mismatch_first
