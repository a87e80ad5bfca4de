use Rattle.tv_hull.proofs.Least.{IsLeastOf}
use Rattle.tv_hull.proofs.scan.least_point.Given as goal

abbrev pub invariant-loop-k : goal.invariant-loop-k
invariant-loop-k l = IsLeastOf l.points l.k l.least
