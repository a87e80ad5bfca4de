use Rattle.tv_laws_tiling.proofs.Squares.{overlapping_do_not_tile}
use Rattle.tv_laws_tiling.proofs.laws.overlapping_triangles_do_not_tile.Goals as goal

pub returns : goal.returns
returns c = overlapping_do_not_tile
