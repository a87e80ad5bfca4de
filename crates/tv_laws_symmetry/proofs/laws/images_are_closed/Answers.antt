use Rattle.tv_laws_symmetry.proofs.Closed.{images_are_closed}
use Rattle.tv_laws_symmetry.proofs.laws.images_are_closed.Goals as goal

pub returns : goal.returns
returns c = images_are_closed
