use Rattle.tv_laws_slices.proofs.Least.{least-completes}
use Rattle.tv_laws_slices.proofs.laws.least_completes.Goals as goal

pub returns : goal.returns
returns c = least-completes
