use Rattle.std.proofs.Common.{sym, ◌∙◌}
use Rattle.tv_laws_series.proofs.Listed.{listed-none, listed_push}
use Rattle.tv_slices.specs.Rows.{sums}
use Rattle.tv_slices.proofs.row.added.Goals as goal

pub loop-e-init : goal.loop-e-init
loop-e-init g c = c.in_ok-all.ensures.items ∙ sym (listed-none _)

pub loop-e-preserved : goal.loop-e-preserved
loop-e-preserved g c = listed_push (sums g.C.Ring.ring c.args.before.now c.args.more.now c.args.x) c.loop-e.e _ _ c.in_ok-sum_at.field-0 c.loop-e.invariant c.in_ok-push.ensures.items c.in_ok-sum_at.ensures.value
