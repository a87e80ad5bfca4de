use Rattle.tv_laws_counts.proofs.Assigned.{assignments_are_all}
use Rattle.tv_laws_counts.proofs.laws.assignments_are_all.Goals as goal

pub returns : goal.returns
returns c = assignments_are_all
