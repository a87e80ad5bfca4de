use Rattle.tv_class_parts.proofs.Progress.{reading_is_wide}
use Rattle.tv_class_parts.proofs.laws.reading_is_wide.Goals as goal

pub returns : goal.returns
returns c = reading_is_wide
