use Rattle.std.proofs.Common.{◌≡◌}
use Rattle.tv_ring.specs.Sums.{at}
use Rattle.tv_laws_series.specs.Terms.{listed, padded, plus}
use Rattle.tv_laurent.proofs.sums.sums.Given as goal

abbrev pub invariant-loop-place : goal.invariant-loop-place
invariant-loop-place g l = let r = g.C.Ring.ring in l.sums.items ≡ listed (plus r (padded r l.before_a (at r l.a)) (padded r l.before_b (at r l.b))) l.place
