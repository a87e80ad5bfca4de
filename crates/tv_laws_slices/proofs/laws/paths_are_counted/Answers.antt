use Rattle.tv_laws_slices.proofs.Counted.{paths-are-counted}
use Rattle.tv_laws_slices.proofs.laws.paths_are_counted.Goals as goal

pub returns : goal.returns
returns c = paths-are-counted
