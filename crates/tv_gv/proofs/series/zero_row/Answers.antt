use Rattle.std.proofs.Common.{pos}
use Rattle.tv_class_integers.proofs.RowSteps.{row-more}
use Rattle.tv_gv.proofs.series.zero_row.Goals as goal

pub loop-preserved : goal.loop-preserved
loop-preserved c = row-more (λ t. pos 0) c.loop.counter _ _ _ c.loop.invariant c.in_ok-push.ensures.items c.zero.ensures.value
