use Rattle.tv_laws_slices.proofs.Closed.{paths-are-extras}
use Rattle.tv_laws_slices.proofs.laws.paths_are_extras.Goals as goal

pub returns : goal.returns
returns c = paths-are-extras
