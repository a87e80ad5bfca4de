use Rattle.tv_laws_sums.proofs.Running.{none-outside}
use Rattle.tv_laws_sums.proofs.laws.none_outside.Goals as goal

pub returns : goal.returns
returns c = none-outside
