use Rattle.std.proofs.Common.{take}
use Rattle.tv_triangulation.specs.Checks.{AreUnit}
use Rattle.tv_triangulation.proofs.area.first_uneven.Given as goal

abbrev pub invariant-loop-t : goal.invariant-loop-t
invariant-loop-t l = AreUnit l.points (take l.t l.triangles)
