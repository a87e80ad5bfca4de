use Rattle.std.proofs.Common.{◌≡◌, true}
use Rattle.tv_spec_slices.specs.Slices.{interlaces_at, all_below}
use Rattle.tv_interlace.proofs.interlacing.interlaces.Given as goal

abbrev pub invariant-loop-d : goal.invariant-loop-d
invariant-loop-d l = all_below l.d (interlaces_at l.t l.a l.b) ≡ true
