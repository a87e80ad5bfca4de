use Rattle.std.proofs.Common.{◌≡◌}
use Rattle.tv_ring.specs.Sums.{at}
use Rattle.tv_laws_series.specs.Terms.{listed}
use Rattle.tv_slices.proofs.row.copied.Given as goal

abbrev pub invariant-loop-e : goal.invariant-loop-e
invariant-loop-e g l = l.all.items ≡ listed (at g.C.Ring.ring l.counts) l.e
