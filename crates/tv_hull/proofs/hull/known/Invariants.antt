use Rattle.std.proofs.Common.{take}
use Rattle.std.specs.List.{AllByRecursion}
use Rattle.tv_lattice.specs.Limits.{HasCoordinates}
use Rattle.tv_hull.proofs.hull.known.Given as goal

abbrev pub invariant-loop-p : goal.invariant-loop-p
invariant-loop-p l = AllByRecursion HasCoordinates (take l.p-index l.points)
