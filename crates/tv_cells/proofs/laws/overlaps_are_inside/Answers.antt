use Rattle.tv_cells.proofs.Inside.{overlaps-are-inside}
use Rattle.tv_cells.proofs.laws.overlaps_are_inside.Goals as goal

pub returns : goal.returns
returns c = overlaps-are-inside
