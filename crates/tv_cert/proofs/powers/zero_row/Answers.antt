use Rattle.std.proofs.Common.{pos}
use Rattle.tv_class_integers.proofs.RowSteps.{row-more}
use Rattle.tv_cert.proofs.powers.zero_row.Goals as goal

pub loop-place-preserved : goal.loop-place-preserved
loop-place-preserved c =
    row-more (λ t. pos 0) c.loop-place.place _ _ _ c.loop-place.invariant c.in_ok-push.ensures.items c.whole.ensures.value
