use Rattle.tv_laws_integers.proofs.Proved.{mismatch_seen}
use Rattle.tv_laws_integers.proofs.laws.mismatch_seen.Goals as goal

pub returns : goal.returns
returns c = mismatch_seen
