use Rattle.std.proofs.Common.{◌≡◌, ◌≤◌, ◌+◌}
use Rattle.tv_ring.specs.Sums.{at, sum_below, term}
use Rattle.tv_laurent.proofs.products.product_at.Given as goal

abbrev pub invariant-loop-i : goal.invariant-loop-i
invariant-loop-i g l = let r = g.C.Ring.ring in record {
  within : l.i ≤ l.place + 1;
  summed : l.total ≡ sum_below r (term r (at r l.a) (at r l.b) l.place) l.i;
}
