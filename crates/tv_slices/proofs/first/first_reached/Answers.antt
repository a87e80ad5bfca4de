use Rattle.std.proofs.Common.{sym, ◌∙◌, nat_eq}
use Rattle.tv_slices.specs.Bare.{at_start}
use Rattle.tv_slices.proofs.Numbers.{marks-none, marks_push}
use Rattle.tv_slices.proofs.Ends.{start-mark}
use Rattle.tv_slices.proofs.first.first_reached.Goals as goal

pub loop-e-init : goal.loop-e-init
loop-e-init c = c.new-marks.ensures.items ∙ sym (marks-none at_start)

pub loop-e-preserved : goal.loop-e-preserved
loop-e-preserved c = marks_push at_start c.loop-e.e _ _ (nat_eq c.loop-e.e 0) c.loop-e.invariant c.in_ok-push.ensures.items (start-mark c.loop-e.e)
