use Rattle.std.proofs.Common.{sym, ◌∙◌}
use Rattle.tv_ring.specs.Sums.{at}
use Rattle.tv_laws_series.proofs.Listed.{listed-none, listed_push}
use Rattle.tv_slices.proofs.row.copied.Goals as goal

pub loop-e-init : goal.loop-e-init
loop-e-init g c = c.new-all.ensures.items ∙ sym (listed-none _)

pub loop-e-preserved : goal.loop-e-preserved
loop-e-preserved g c = listed_push (at g.C.Ring.ring c.args.counts.now) c.loop-e.e _ _ c.in_ok-copy_at.field-0 c.loop-e.invariant c.in_ok-push.ensures.items c.in_ok-copy_at.ensures.value
