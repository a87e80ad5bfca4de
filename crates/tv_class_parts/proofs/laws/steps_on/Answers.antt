use Rattle.tv_class_parts.proofs.Progress.{steps_on}
use Rattle.tv_class_parts.proofs.laws.steps_on.Goals as goal

pub returns : goal.returns
returns c = steps_on
