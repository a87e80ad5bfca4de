use Rattle.tv_cells.proofs.Dropped.{cuts-drop-none}
use Rattle.tv_cells.proofs.laws.cuts_drop_none.Goals as goal

pub returns : goal.returns
returns c = cuts-drop-none
