use Rattle.tv_laws_tiling.proofs.Diagonals.{diagonals_tile}
use Rattle.tv_laws_tiling.proofs.laws.diagonals_of_the_square_tile.Goals as goal

pub returns : goal.returns
returns c = diagonals_tile
