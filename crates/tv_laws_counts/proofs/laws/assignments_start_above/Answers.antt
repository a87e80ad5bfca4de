use Rattle.tv_laws_counts.proofs.Bounds.{starts_above}
use Rattle.tv_laws_counts.proofs.laws.assignments_start_above.Goals as goal

pub returns : goal.returns
returns c = starts_above
