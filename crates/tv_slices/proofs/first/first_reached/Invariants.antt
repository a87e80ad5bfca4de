use Rattle.std.proofs.Common.{◌≡◌}
use Rattle.tv_slices.specs.Rows.{marks}
use Rattle.tv_slices.specs.Bare.{at_start}
use Rattle.tv_slices.proofs.first.first_reached.Given as goal

abbrev pub invariant-loop-e : goal.invariant-loop-e
invariant-loop-e l = l.marks.items ≡ marks at_start l.e
