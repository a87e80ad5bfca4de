use Rattle.std.proofs.Common.{◌≡◌, ◌++◌, pos, ◌+ℤ◌}
use Rattle.tv_spec_slices.specs.Paths.{next_of}
use Rattle.tv_interlace.proofs.Fitted.{left_from}
use Rattle.tv_interlace.proofs.next.next_slices.Given as goal

abbrev pub invariant-loop-extras : goal.invariant-loop-extras
invariant-loop-extras l = l.all.items ++ left_from l.legs l.t (l.t +ℤ pos 1) l.a l.extras l.extras-end ≡ next_of l.legs l.t l.a l.budget
