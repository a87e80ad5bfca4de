use Rattle.tv_laws_integers.proofs.Proved.{integers_are}
use Rattle.tv_laws_integers.proofs.laws.integers_are.Goals as goal

pub returns : goal.returns
returns c = integers_are
