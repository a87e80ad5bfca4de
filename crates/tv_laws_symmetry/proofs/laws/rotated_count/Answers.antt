use Rattle.tv_laws_symmetry.proofs.Images.{rotated_count}
use Rattle.tv_laws_symmetry.proofs.laws.rotated_count.Goals as goal

pub returns : goal.returns
returns c = rotated_count
