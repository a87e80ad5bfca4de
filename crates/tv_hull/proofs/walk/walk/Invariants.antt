use Rattle.tv_spec_plane.specs.Plane.{at}
use Rattle.tv_hull.proofs.Steps.{IsWalked, left_of}
use Rattle.tv_hull.proofs.walk.walk.Given as goal

abbrev pub invariant-loop-next : goal.invariant-loop-next
invariant-loop-next l = IsWalked l.points l.heading l.start l.segments.items l.here

abbrev pub decreases-loop-next : goal.decreases-loop-next
decreases-loop-next l = left_of l.heading (at l.points l.here)
