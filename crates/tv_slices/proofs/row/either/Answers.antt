use Rattle.std.proofs.Common.{sym, ◌∙◌}
use Rattle.tv_laws_series.proofs.Listed.{listed-none, listed_push}
use Rattle.tv_slices.specs.Rows.{either_reached}
use Rattle.tv_slices.proofs.row.either.Goals as goal

pub loop-e-init : goal.loop-e-init
loop-e-init c = c.in_ok-all.ensures.items ∙ sym (listed-none _)

pub loop-e-preserved : goal.loop-e-preserved
loop-e-preserved c = listed_push (either_reached c.args.before.now c.args.more.now c.args.x) c.loop-e.e _ _ c.is_either.result c.loop-e.invariant c.in_ok-push.ensures.items c.is_either.ensures
