use Rattle.std.proofs.Common.{ℕ, ◌<◌}
use Rattle.tv_ring.specs.Sums.{at}
use Rattle.tv_laurent.proofs.series.all_known.Given as goal

abbrev pub invariant-loop-coefficient : goal.invariant-loop-coefficient
invariant-loop-coefficient g l = (k : ℕ) → k < l.coefficient-index → g.C.Ring.IsValue (at g.C.Ring.ring l.coefficients k)
