use Rattle.tv_laws_symmetry.proofs.Images.{images_are_diagrams}
use Rattle.tv_laws_symmetry.proofs.laws.images_are_diagrams.Goals as goal

pub returns : goal.returns
returns c = images_are_diagrams
