use Rattle.tv_triangulation.proofs.Accepted.{passing_triangles_tile}
use Rattle.tv_triangulation.proofs.laws.passing_triangles_tile.Goals as goal

pub returns : goal.returns
returns c = passing_triangles_tile
