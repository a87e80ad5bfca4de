use Rattle.tv_laws_tiling.proofs.Matched.{matched_triangles_tile}
use Rattle.tv_laws_tiling.proofs.laws.matched_triangles_tile.Goals as goal

pub returns : goal.returns
returns c = matched_triangles_tile
