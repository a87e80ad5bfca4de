use Rattle.std.proofs.Common.{◌≡◌}
use Rattle.tv_ring.specs.Sums.{at}
use Rattle.tv_laws_series.specs.Quotients.{quotients}
use Rattle.tv_laurent.proofs.quotients.quotients.Given as goal

abbrev pub invariant-loop-place : goal.invariant-loop-place
invariant-loop-place g l = let r = g.C.Ring.ring in l.quotients.items ≡ quotients r (at r l.dividend) (at r l.divisor) l.place
