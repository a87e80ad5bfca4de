use Rattle.tv_partition.proofs.Shapes.{diagrams-are-sets}
use Rattle.tv_partition.proofs.laws.diagrams_are_sets.Goals as goal

pub returns : goal.returns
returns c = diagrams-are-sets
