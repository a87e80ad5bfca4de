use Rattle.tv_hull.specs.Ways.{IsBestOf}
use Rattle.tv_hull.proofs.scan.next_point.Given as goal

abbrev pub invariant-loop-k : goal.invariant-loop-k
invariant-loop-k l = IsBestOf l.points l.heading l.p l.k l.best
