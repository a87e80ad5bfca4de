use Rattle.std.proofs.Common.{◌≡◌}
use Rattle.tv_ring.specs.Sums.{at}
use Rattle.tv_laws_series.specs.Terms.{listed}
use Rattle.tv_laws_series.specs.Polynomials.{negatives}
use Rattle.tv_laurent.proofs.poly.negatives_of.Given as goal

abbrev pub invariant-loop-coefficient : goal.invariant-loop-coefficient
invariant-loop-coefficient g l = let r = g.C.Ring.ring in l.negatives.items ≡ listed (negatives r (at r l.row)) l.coefficient-index
