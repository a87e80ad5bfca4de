use Rattle.std.proofs.Common.{take}
use Rattle.tv_triangulation.specs.Checks.{AreListed}
use Rattle.tv_triangulation.proofs.index.first_unlisted.Given as goal

abbrev pub invariant-loop-t : goal.invariant-loop-t
invariant-loop-t l = AreListed l.points (take l.t l.triangles)
