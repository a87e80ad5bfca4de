use Rattle.tv_cells.proofs.Sublists.{extras_by_length}
use Rattle.tv_cells.proofs.laws.extras_by_length.Goals as goal

pub returns : goal.returns
returns c = extras_by_length
