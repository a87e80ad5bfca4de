use Rattle.tv_laws_integers.proofs.Proved.{integers_go_on}
use Rattle.tv_laws_integers.proofs.laws.integers_go_on.Goals as goal

pub returns : goal.returns
returns c = integers_go_on
