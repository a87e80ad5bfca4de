use Rattle.tv_laws_counts.proofs.Degrees.{assignments_listed}
use Rattle.tv_laws_counts.proofs.laws.assignments_are_listed.Goals as goal

pub returns : goal.returns
returns c = assignments_listed
