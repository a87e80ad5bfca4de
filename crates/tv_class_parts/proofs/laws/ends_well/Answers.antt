use Rattle.tv_class_parts.proofs.Progress.{ends_well}
use Rattle.tv_class_parts.proofs.laws.ends_well.Goals as goal

pub returns : goal.returns
returns c = ends_well
