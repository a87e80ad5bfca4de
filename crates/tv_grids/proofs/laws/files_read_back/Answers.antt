use Rattle.tv_grids.proofs.Texts.{files_read_back}
use Rattle.tv_grids.proofs.laws.files_read_back.Goals as goal

pub returns : goal.returns
returns c = files_read_back
