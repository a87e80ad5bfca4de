use Rattle.std.proofs.Common.{◌-◌}
use Rattle.tv_graded.proofs.Search.{IsBracket}
use Rattle.tv_graded.proofs.order.place_of.Given as goal

abbrev pub invariant-loop-low : goal.invariant-loop-low
invariant-loop-low g l = IsBracket l.heights l.class l.rows l.low l.high

abbrev pub decreases-loop-low : goal.decreases-loop-low
decreases-loop-low g l = l.high - l.low
