use Rattle.std.proofs.Common.{◌-◌}
use Rattle.tv_integers.proofs.Search.{IsBracket}
use Rattle.tv_integers.proofs.order.place_of.Given as goal

abbrev pub invariant-loop-low : goal.invariant-loop-low
invariant-loop-low l = IsBracket l.heights l.class l.rows l.low l.high

abbrev pub decreases-loop-low : goal.decreases-loop-low
decreases-loop-low l = l.high - l.low
