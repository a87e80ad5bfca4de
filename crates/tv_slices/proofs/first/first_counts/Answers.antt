use Rattle.std.proofs.Common.{sym, ◌∙◌}
use Rattle.tv_slices.specs.Bare.{at_start}
use Rattle.tv_slices.proofs.Ends.{numbers-none, numbers_push}
use Rattle.tv_slices.proofs.first.first_counts.Goals as goal

pub loop-e-init : goal.loop-e-init
loop-e-init g c = c.new-counts.ensures.items ∙ sym (numbers-none g.C.Ring.ring at_start)

pub loop-e-preserved : goal.loop-e-preserved
loop-e-preserved g c = numbers_push g.C.Ring.ring at_start c.loop-e.e _ _ c.in_ok-start_at.field-0 c.loop-e.invariant c.in_ok-push.ensures.items c.in_ok-start_at.ensures.value
