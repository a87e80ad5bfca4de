use Rattle.std.proofs.Common.{◌≡◌, ◌+◌, ◌-◌, ◌++◌, ◌≤◌, length}
use Rattle.tv_spec_slices.specs.Slices.{at}
use Rattle.tv_sums.specs.Keys.{cut_from}
use Rattle.tv_sums.proofs.key.cut.Given as goal

abbrev pub invariant-loop-i : goal.invariant-loop-i
invariant-loop-i l = record {
  value : l.heights.items ++ cut_from (at l.s) (l.full + l.i) (l.i-end - l.i) ≡ cut_from (at l.s) l.full l.i-end;
  short : length l.heights.items ≤ l.i;
}
