use Rattle.tv_cells.proofs.Cubes.{cube-has}
use Rattle.tv_cells.proofs.laws.cube_has.Goals as goal

pub returns : goal.returns
returns c = cube-has
