use Rattle.tv_laws_integers.proofs.Proved.{integers_listed}
use Rattle.tv_laws_integers.proofs.laws.integers_listed.Goals as goal

pub returns : goal.returns
returns c = integers_listed
