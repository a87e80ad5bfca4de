use Rattle.tv_cells.proofs.Cubes.{cube-rises}
use Rattle.tv_cells.proofs.laws.cube_rises.Goals as goal

pub returns : goal.returns
returns c = cube-rises
