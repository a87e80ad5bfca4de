use Rattle.tv_grids.proofs.Within.{grid-within}
use Rattle.tv_grids.proofs.grid.generate.Goals as goal

pub invariant_of-result : goal.invariant_of-result
invariant_of-result c = rw (c.in_ok-points.ensures, c.in_ok-triangles.ensures, c.in_ok-heights.ensures) (grid-within c.args.k c.requires.few)
