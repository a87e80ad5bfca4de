use Rattle.tv_laws_sums.proofs.Running.{running-sums}
use Rattle.tv_laws_sums.proofs.laws.running_sums.Goals as goal

pub returns : goal.returns
returns c = running-sums
