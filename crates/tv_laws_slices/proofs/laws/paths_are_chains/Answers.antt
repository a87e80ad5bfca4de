use Rattle.tv_laws_slices.proofs.Chains.{paths-are-chains}
use Rattle.tv_laws_slices.proofs.laws.paths_are_chains.Goals as goal

pub returns : goal.returns
returns c = paths-are-chains
