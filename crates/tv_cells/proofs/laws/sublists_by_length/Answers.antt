use Rattle.tv_cells.proofs.Sublists.{by_length}
use Rattle.tv_cells.proofs.laws.sublists_by_length.Goals as goal

pub returns : goal.returns
returns c = by_length
