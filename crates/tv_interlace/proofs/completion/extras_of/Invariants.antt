use Rattle.std.proofs.Common.{◌≡◌, ◌+◌, ◌-◌, ◌*◌, ◌≤◌}
use Rattle.std.specs.List.{range_with_len}
use Rattle.tv_lemmas.specs.Sums.{sum_of}
use Rattle.tv_interlace.specs.Places.{extra}
use Rattle.tv_interlace.proofs.completion.extras_of.Given as goal

abbrev pub invariant-loop-d : goal.invariant-loop-d
invariant-loop-d l = record {
  sum : l.total + sum_of (extra l.legs l.t l.a) (range_with_len l.d (l.d-end - l.d)) ≡ sum_of (extra l.legs l.t l.a) (range_with_len 0 l.d-end);
  bound : l.total ≤ 4294967295 * l.d;
}
