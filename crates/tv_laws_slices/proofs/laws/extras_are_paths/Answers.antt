use Rattle.tv_laws_slices.proofs.Cut.{extras-are-paths}
use Rattle.tv_laws_slices.proofs.laws.extras_are_paths.Goals as goal

pub returns : goal.returns
returns c = extras-are-paths
