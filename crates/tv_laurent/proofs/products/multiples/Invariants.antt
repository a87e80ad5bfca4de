use Rattle.std.proofs.Common.{◌≡◌}
use Rattle.tv_ring.specs.Sums.{at}
use Rattle.tv_laws_series.specs.Terms.{listed, scaled}
use Rattle.tv_laurent.proofs.products.multiples.Given as goal

abbrev pub invariant-loop-place : goal.invariant-loop-place
invariant-loop-place g l = let r = g.C.Ring.ring in l.multiples.items ≡ listed (scaled r l.factor (at r l.a)) l.place
