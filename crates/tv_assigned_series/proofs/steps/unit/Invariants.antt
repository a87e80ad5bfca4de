use Rattle.std.proofs.Common.{◌≡◌, ◌<◌, []}
use Rattle.tv_laws_series.specs.Terms.{listed}
use Rattle.tv_assigned_series.specs.Terms.{front_times}
use Rattle.tv_assigned_series.proofs.steps.unit.Given as goal

abbrev pub invariant-loop-i : goal.invariant-loop-i
invariant-loop-i g l = record {
  items : l.coefficients.items ≡ listed (front_times g.C.Ring.ring []) l.i;
  first : 0 < l.i;
}
