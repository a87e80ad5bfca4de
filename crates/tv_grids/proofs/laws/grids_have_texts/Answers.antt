use Rattle.tv_grids.proofs.Texts.{grids_have_texts}
use Rattle.tv_grids.proofs.laws.grids_have_texts.Goals as goal

pub returns : goal.returns
returns c = grids_have_texts
