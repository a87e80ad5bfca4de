use Rattle.tv_laws_integers.proofs.Existence.{only}
use Rattle.tv_laws_integers.proofs.laws.integers_only.Goals as goal

pub returns : goal.returns
returns c = only
