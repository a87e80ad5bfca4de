use Rattle.tv_class_parts.proofs.Progress.{parts_are_wide}
use Rattle.tv_class_parts.proofs.laws.parts_are_wide.Goals as goal

pub returns : goal.returns
returns c = parts_are_wide
