use Rattle.std.proofs.Common.{◌≡◌}
use Rattle.tv_ring.specs.Sums.{at, convolution}
use Rattle.tv_laws_series.specs.Terms.{listed}
use Rattle.tv_laurent.proofs.products.products.Given as goal

abbrev pub invariant-loop-place : goal.invariant-loop-place
invariant-loop-place g l = let r = g.C.Ring.ring in l.products.items ≡ listed (convolution r (at r l.a) (at r l.b)) l.place
