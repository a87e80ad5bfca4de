use Rattle.std.proofs.Common.{◌≡◌}
use Rattle.tv_laws_series.specs.Terms.{listed}
use Rattle.tv_slices.specs.Rows.{either_reached}
use Rattle.tv_slices.proofs.row.either.Given as goal

abbrev pub invariant-loop-e : goal.invariant-loop-e
invariant-loop-e l = l.all.items ≡ listed (either_reached l.before l.more l.x) l.e
