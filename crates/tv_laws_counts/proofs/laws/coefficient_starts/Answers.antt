use Rattle.tv_laws_counts.proofs.Bounds.{none_below_start}
use Rattle.tv_laws_counts.proofs.laws.coefficient_starts.Goals as goal

pub returns : goal.returns
returns c = none_below_start
