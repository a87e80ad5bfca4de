use Rattle.tv_laws_tiling_converse.proofs.Tiled.{tiling_triangles_match}
use Rattle.tv_laws_tiling_converse.proofs.laws.tiling_triangles_match.Goals as goal

pub returns : goal.returns
returns c = tiling_triangles_match
