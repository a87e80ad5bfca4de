use Rattle.std.proofs.Common.{◌≡◌}
use Rattle.tv_slices.specs.Rows.{numbers}
use Rattle.tv_slices.specs.Bare.{at_start}
use Rattle.tv_slices.proofs.first.first_counts.Given as goal

abbrev pub invariant-loop-e : goal.invariant-loop-e
invariant-loop-e g l = l.counts.items ≡ numbers g.C.Ring.ring at_start l.e
