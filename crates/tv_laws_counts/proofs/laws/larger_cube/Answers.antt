use Rattle.tv_laws_counts.proofs.Larger.{larger_cube}
use Rattle.tv_laws_counts.proofs.laws.larger_cube.Goals as goal

pub returns : goal.returns
returns c = larger_cube
