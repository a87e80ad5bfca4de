use Rattle.tv_laws_symmetry.proofs.Images.{image_overlaps}
use Rattle.tv_laws_symmetry.proofs.laws.image_overlaps.Goals as goal

pub returns : goal.returns
returns c = image_overlaps
