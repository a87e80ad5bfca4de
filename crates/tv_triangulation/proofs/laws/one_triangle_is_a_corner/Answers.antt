use Rattle.tv_triangulation.proofs.Accepted.{one_triangle_is_a_corner}
use Rattle.tv_triangulation.proofs.laws.one_triangle_is_a_corner.Goals as goal

pub returns : goal.returns
returns c = one_triangle_is_a_corner
