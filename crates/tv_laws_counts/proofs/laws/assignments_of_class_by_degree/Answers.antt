use Rattle.tv_laws_counts.proofs.Degrees.{assignments_by_degree}
use Rattle.tv_laws_counts.proofs.laws.assignments_of_class_by_degree.Goals as goal

pub returns : goal.returns
returns c = assignments_by_degree
