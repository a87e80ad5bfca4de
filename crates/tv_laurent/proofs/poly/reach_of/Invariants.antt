use Rattle.std.proofs.Common.{◌≡◌}
use Rattle.tv_ring.specs.Sums.{at}
use Rattle.tv_laws_series.specs.Polynomials.{greatest_below}
use Rattle.tv_laurent.specs.PolyCalls.{outward}
use Rattle.tv_laurent.proofs.poly.reach_of.Given as goal

abbrev pub invariant-loop-i : goal.invariant-loop-i
invariant-loop-i g l = let r = g.C.Ring.ring in l.greatest ≡ greatest_below (outward r l.low (at r l.row)) l.i
