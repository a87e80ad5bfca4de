use Rattle.tv_class_parts.proofs.Progress.{difference_is_seen}
use Rattle.tv_class_parts.proofs.laws.difference_is_seen.Goals as goal

pub returns : goal.returns
returns c = difference_is_seen
