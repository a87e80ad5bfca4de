use Rattle.tv_laws_integers.proofs.Proved.{agree_everywhere}
use Rattle.tv_laws_integers.proofs.laws.agree_everywhere.Goals as goal

pub returns : goal.returns
returns c = agree_everywhere
