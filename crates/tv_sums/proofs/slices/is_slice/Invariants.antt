use Rattle.std.proofs.Common.{◌≡◌, suc, true}
use Rattle.std.specs.Prelude.{◌&&◌, nat_le}
use Rattle.tv_spec_slices.specs.Slices.{at, all_below}
use Rattle.tv_sums.specs.Plans.{is_fit}
use Rattle.tv_sums.proofs.slices.is_slice.Given as goal

abbrev pub invariant-loop-d : goal.invariant-loop-d
invariant-loop-d l = all_below l.d (λ d. nat_le (at l.s (suc d)) (at l.s d) && is_fit l.legs l.plan d (at l.s d)) ≡ true
