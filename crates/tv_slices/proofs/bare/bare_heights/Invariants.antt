use Rattle.std.proofs.Common.{◌≡◌, ◌+◌, ◌-◌, ◌++◌, ◌≤◌, length}
use Rattle.tv_slices.specs.Bare.{bare_from}
use Rattle.tv_slices.proofs.bare.bare_heights.Given as goal

abbrev pub invariant-loop-i : goal.invariant-loop-i
invariant-loop-i l = record {
  value : l.heights.items ++ bare_from l.legs l.t (l.full + l.i) (l.i-end - l.i) ≡ bare_from l.legs l.t l.full l.i-end;
  short : length l.heights.items ≤ l.i;
}
