use Rattle.std.proofs.Common.{◌∙◌, sym, arith, ap, Err, ◌<◌, length}
use Rattle.std.proofs.lemmas.Int.{ints}
use Rattle.tv_ring.specs.Sums.{at}
use Rattle.tv_laws_series.proofs.Listed.{at_read}
use Rattle.tv_laurent.proofs.Divided.{quotients-none, quotients_push, found_wide, found_reaches, value_found}
use Rattle.tv_laurent.proofs.Wide.{on_wide}
use Rattle.tv_laurent.proofs.quotients.quotients.Goals as goal

pub loop-place-init : goal.loop-place-init
loop-place-init g c = c.in_ok-quotients.ensures.items ∙ sym (quotients-none g.C.Ring.ring _ _)

pub quotient_at-requires-clause-found : goal.quotient_at-requires-clause-found
quotient_at-requires-clause-found g c =
    value_found g.met.C.Ring.laws g.met.C.Ring.sizes c.args.dividend.now c.args.divisor.now _ c.loop-place.place c.requires.dividend c.requires.divisor (c.deref.ensures.value ∙ c.loop-place.invariant)

pub quotient_at-requires-clause-reaches : goal.quotient_at-requires-clause-reaches
quotient_at-requires-clause-reaches g c =
    found_reaches g.met.C.Ring.laws g.met.C.Ring.sizes c.args.dividend.now c.args.divisor.now _ c.args.count c.loop-place.place c.requires.dividend c.requires.divisor c.requires.within c.requires.reaches (c.deref.ensures.value ∙ c.loop-place.invariant) c.loop-place-test.true

pub returns-in-Err-clause-wide : goal.returns-in-Err-clause-wide
returns-in-Err-clause-wide g c =
    let r = g.C.Ring.ring in let k = c.loop-place.place in let low = c.requires.low in let count = c.requires.count in let within = c.requires.within in let test = c.loop-place-test.true in
    let inside : k < length c.args.dividend.now = omega arith in
    let y = at_read r c.args.dividend.now k c.index-dividend-place.result c.index-dividend-place.is inside in
    rw c.fault_at.ensures.value (on_wide c.in-Err.fault _ _ _ k _ (omega (arith, ints)) test
    (λ e. found_wide r _ _ c.args.count k c.deref.result.now _ (c.deref.ensures.value ∙ c.loop-place.invariant) test y (c.in-Err.ensures.wide (ap Err e))))

pub loop-place-preserved : goal.loop-place-preserved
loop-place-preserved g c =
    let r = g.C.Ring.ring in let k = c.loop-place.place in let within = c.requires.within in let test = c.loop-place-test.true in
    let inside : k < length c.args.dividend.now = omega arith in
    let y = at_read r c.args.dividend.now k c.index-dividend-place.result c.index-dividend-place.is inside in
    quotients_push r (at r c.args.dividend.now) (at r c.args.divisor.now) k c.loop-place.quotients.items c.push.new.self.items _ c.in-Ok.quotient c.loop-place.invariant c.in_ok-push-in-Ok.ensures.items y (rw (← c.deref.ensures.value) c.in-Ok.ensures.value)
