use Rattle.std.proofs.Common.{◌≡◌}
use Rattle.tv_laws_series.specs.Terms.{listed}
use Rattle.tv_assigned_series.specs.Terms.{signed}
use Rattle.tv_assigned_series.proofs.signs.signed.Given as goal

abbrev pub invariant-loop-place : goal.invariant-loop-place
invariant-loop-place g l = l.coefficients.items ≡ listed (signed g.C.Ring.ring l.series.coefficients l.first) l.place
