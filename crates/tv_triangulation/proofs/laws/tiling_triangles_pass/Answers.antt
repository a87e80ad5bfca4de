use Rattle.tv_triangulation.proofs.Accepted.{tiling_triangles_pass}
use Rattle.tv_triangulation.proofs.laws.tiling_triangles_pass.Goals as goal

pub returns : goal.returns
returns c = tiling_triangles_pass
