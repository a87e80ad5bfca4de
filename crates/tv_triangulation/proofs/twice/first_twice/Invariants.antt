use Rattle.tv_hull.proofs.Pairs.{NoneBelow}
use Rattle.tv_triangulation.specs.Checks.{IsTwice}
use Rattle.tv_triangulation.proofs.twice.first_twice.Given as goal

abbrev pub invariant-loop-t : goal.invariant-loop-t
invariant-loop-t l = NoneBelow (IsTwice l.triangles) l.t
