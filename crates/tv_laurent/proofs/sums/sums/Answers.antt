use Rattle.std.proofs.Common.{◌∙◌, sym, arith, ap, Err}
use Rattle.std.proofs.lemmas.Int.{ints}
use Rattle.tv_laws_series.proofs.Listed.{listed-none, listed_push}
use Rattle.tv_laurent.proofs.Wide.{on_wide}
use Rattle.tv_laurent.proofs.sums.sums.Goals as goal

pub loop-place-init : goal.loop-place-init
loop-place-init g c = c.in_ok-sums.ensures.items ∙ sym (listed-none _)

pub returns-in-Err-clause-wide : goal.returns-in-Err-clause-wide
returns-in-Err-clause-wide g c =
    let low = c.requires.low in let count = c.requires.count in
    rw c.fault_at.ensures.value (on_wide c.in-Err.fault _ _ _ c.loop-place.place _ (omega (arith, ints)) c.loop-place-test.true (λ e. c.in-Err.ensures.wide (ap Err e)))

pub loop-place-preserved : goal.loop-place-preserved
loop-place-preserved g c = listed_push _ c.loop-place.place _ _ c.in-Ok.sum c.loop-place.invariant c.in_ok-push-in-Ok.ensures.items c.in-Ok.ensures.value
