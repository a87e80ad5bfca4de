use Rattle.tv_partition.proofs.Members.{diagrams-are-all}
use Rattle.tv_partition.proofs.laws.diagrams_are_all.Goals as goal

pub returns : goal.returns
returns c = diagrams-are-all
