use Rattle.std.proofs.Common.{◌≡◌, ◌+◌, ◌-◌, ◌*◌, ◌≤◌}
use Rattle.std.specs.List.{range_with_len}
use Rattle.tv_lemmas.specs.Sums.{sum_of}
use Rattle.tv_spec_slices.specs.Slices.{at}
use Rattle.tv_sums.specs.Plans.{left_at}
use Rattle.tv_sums.proofs.weights.left.Given as goal

abbrev pub invariant-loop-d : goal.invariant-loop-d
invariant-loop-d l = record {
  sum : l.total + sum_of (left_at l.legs l.plan l.i (at l.s)) (range_with_len l.d (l.plan.n - l.d)) ≡ sum_of (left_at l.legs l.plan l.i (at l.s)) (range_with_len 0 l.plan.n);
  bound : l.total ≤ 18446744073709551615 * l.d;
}
