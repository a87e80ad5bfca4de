use Rattle.tv_partition.proofs.Descending.{diagrams-once}
use Rattle.tv_partition.proofs.laws.diagrams_once.Goals as goal

pub returns : goal.returns
returns c = diagrams-once
