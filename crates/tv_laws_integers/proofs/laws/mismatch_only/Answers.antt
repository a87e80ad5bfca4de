use Rattle.tv_laws_integers.proofs.Mismatches.{only_mismatch}
use Rattle.tv_laws_integers.proofs.laws.mismatch_only.Goals as goal

pub returns : goal.returns
returns c = only_mismatch
