use Rattle.tv_laws_slices.proofs.Once.{slices-once}
use Rattle.tv_laws_slices.proofs.laws.slices_once.Goals as goal

pub returns : goal.returns
returns c = slices-once
