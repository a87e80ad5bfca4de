use Rattle.tv_laws_tiling.proofs.Exchanges.{exchanged_triangles_tile}
use Rattle.tv_laws_tiling.proofs.laws.exchanged_triangles_tile.Goals as goal

pub returns : goal.returns
returns c = exchanged_triangles_tile
