use Rattle.std.proofs.Common.{◌∙◌, sym, arith, ap, Err}
use Rattle.std.proofs.lemmas.Int.{ints}
use Rattle.tv_ring.specs.Sums.{at}
use Rattle.tv_laws_series.proofs.Listed.{listed-none, listed_push, at_read}
use Rattle.tv_laws_series.proofs.Padded.{scaled_is}
use Rattle.tv_laurent.proofs.SeriesCalls.{scale_size_is}
use Rattle.tv_laurent.proofs.Wide.{on_wide}
use Rattle.tv_laurent.proofs.products.multiples.Goals as goal

pub loop-place-init : goal.loop-place-init
loop-place-init g c = c.in_ok-multiples.ensures.items ∙ sym (listed-none _)

pub mul-requires : goal.mul-requires
mul-requires g c =
    let r = g.C.Ring.ring in let k = c.loop-place.place in let x = at_read r c.args.a.now k c.index-a-place.result c.index-a-place.is c.loop-place-test.true in
    record { reach = rw x (c.requires.reaches k c.loop-place-test.true) }

pub returns-in-Err-clause-wide : goal.returns-in-Err-clause-wide
returns-in-Err-clause-wide g c =
    let r = g.C.Ring.ring in let k = c.loop-place.place in let x = at_read r c.args.a.now k c.index-a-place.result c.index-a-place.is c.loop-place-test.true in
    let low = c.requires.low in let count = c.requires.count in
    rw c.fault_at.ensures.value (on_wide c.in-Err.fault _ _ _ k _ (omega (arith, ints)) c.loop-place-test.true
    (λ e. rw (scale_size_is r c.args.factor.now (at r c.args.a.now) k, ← x) (c.in-Err.ensures.wide (ap Err e))))

pub loop-place-preserved : goal.loop-place-preserved
loop-place-preserved g c =
    let r = g.C.Ring.ring in let k = c.loop-place.place in let x = at_read r c.args.a.now k c.index-a-place.result c.index-a-place.is c.loop-place-test.true in
    listed_push _ k _ _ c.in-Ok.multiple c.loop-place.invariant c.in_ok-push-in-Ok.ensures.items (rw (scaled_is r c.args.factor.now (at r c.args.a.now) k, ← x) c.in-Ok.ensures.value)
