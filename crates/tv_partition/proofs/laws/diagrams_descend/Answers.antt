use Rattle.tv_partition.proofs.Descending.{diagrams-descend}
use Rattle.tv_partition.proofs.laws.diagrams_descend.Goals as goal

pub returns : goal.returns
returns c = diagrams-descend
