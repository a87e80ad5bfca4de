use Rattle.std.proofs.Common.{◌≡◌}
use Rattle.tv_laws_series.specs.Terms.{listed}
use Rattle.tv_slices.specs.Rows.{sums}
use Rattle.tv_slices.proofs.row.added.Given as goal

abbrev pub invariant-loop-e : goal.invariant-loop-e
invariant-loop-e g l = l.all.items ≡ listed (sums g.C.Ring.ring l.before l.more l.x) l.e
