use Rattle.std.proofs.Common.{◌≡◌, ◌+◌, ◌-◌, ◌*◌, ◌≤◌}
use Rattle.std.specs.List.{range_with_len}
use Rattle.tv_lemmas.specs.Sums.{sum_of}
use Rattle.tv_interlace.specs.Places.{beside}
use Rattle.tv_sums.proofs.weights.upright.Given as goal

abbrev pub invariant-loop-y : goal.invariant-loop-y
invariant-loop-y l = record {
  sum : l.total + sum_of (beside l.legs l.x l.height) (range_with_len l.y (l.m - l.y)) ≡ sum_of (beside l.legs l.x l.height) (range_with_len 0 l.m);
  bound : l.total ≤ 4294967295 * l.y;
}
