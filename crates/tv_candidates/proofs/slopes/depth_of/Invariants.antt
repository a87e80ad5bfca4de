use Rattle.std.proofs.Common.{◌≤ℤ◌}
use Rattle.tv_candidates.proofs.Depths.{IsNoughtBelow}
use Rattle.tv_candidates.proofs.slopes.depth_of.Given as goal

abbrev pub invariant-loop-exponent : goal.invariant-loop-exponent
invariant-loop-exponent l = record { low : l.series.low ≤ℤ l.exponent; none : IsNoughtBelow l.series l.exponent }
