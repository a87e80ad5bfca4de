use Rattle.tv_laws_counts.proofs.Assigned.{assignments_once}
use Rattle.tv_laws_counts.proofs.laws.assignments_once.Goals as goal

pub returns : goal.returns
returns c = assignments_once
