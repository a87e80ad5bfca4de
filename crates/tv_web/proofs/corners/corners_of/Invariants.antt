use Rattle.std.proofs.Common.{◌≡◌, take, map}
use Rattle.tv_web.specs.Corners.{corner_in}
use Rattle.tv_web.proofs.corners.corners_of.Given as goal

abbrev pub invariant-loop-triple : goal.invariant-loop-triple
invariant-loop-triple l = l.corners.items ≡ map (corner_in l.compact l.outer) (take l.triple-index l.triangles)
