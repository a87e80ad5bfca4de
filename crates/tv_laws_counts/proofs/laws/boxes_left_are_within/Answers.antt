use Rattle.tv_laws_counts.proofs.Bounds.{boxes_within}
use Rattle.tv_laws_counts.proofs.laws.boxes_left_are_within.Goals as goal

pub returns : goal.returns
returns c = boxes_within
