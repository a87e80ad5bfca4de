use Rattle.tv_recurrence.proofs.QuotientRows.{quotients-none, quotients-more}
use Rattle.tv_recurrence.proofs.row.coefficients.Goals as goal

pub loop-weight-init : goal.loop-weight-init
loop-weight-init c = quotients-none _ _ _ c.in_ok-row.ensures.items

pub loop-weight-preserved : goal.loop-weight-preserved
loop-weight-preserved c =
    quotients-more _ _ c.loop-weight.weight _ _ c.in-Ok.quotient c.loop-weight.invariant c.in_ok-push-in-Ok.ensures.items c.in-Ok.ensures.value
