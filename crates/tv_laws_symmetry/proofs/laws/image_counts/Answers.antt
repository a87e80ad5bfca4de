use Rattle.tv_laws_symmetry.proofs.Images.{image_counts}
use Rattle.tv_laws_symmetry.proofs.laws.image_counts.Goals as goal

pub returns : goal.returns
returns c = image_counts
