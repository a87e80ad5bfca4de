use Rattle.std.proofs.Common.{◌<◌, ◌-◌, length, arith}
use Rattle.std.proofs.lemmas.Result.{err_from_is_err_and}
use Rattle.tv_laws_series.proofs.Listed.{at_read}
use Rattle.tv_laurent.proofs.Convolved.{summed_nothing, summed_first, summed_more, summed_all, term_wide, sum_wide}
use Rattle.tv_laurent.proofs.products.product_at.Goals as goal

-- no pair meets there
pub returns-then-end-begin-clause-value : goal.returns-then-end-begin-clause-value
returns-then-end-begin-clause-value g c =
    let xs = c.args.a.now in let ys = c.args.b.now in let first = c.saturating_sub-begin.ensures in let end = c.min-end.ensures in
    summed_nothing g.met.C.Ring.laws xs ys c.requires.a c.requires.b c.args.place _ _ c.zero.result c.zero.ensures.value (omega arith) (end, c.if-end-begin.true)

pub mul-requires : goal.mul-requires
mul-requires g c =
    let r = g.C.Ring.ring in let xs = c.args.a.now in let ys = c.args.b.now in let i = c.saturating_sub-begin.result in let k = c.args.place in
    let first = c.saturating_sub-begin.ensures in let end = c.min-end.ensures in let test = c.if-end-begin.false in
    let in_a : i < length xs = omega arith in let in_b : k - i < length ys = omega arith in
    let x = at_read r xs i c.index-a-begin.result c.index-a-begin.is in_a in let y = at_read r ys (k - i) c.index-b-place.result c.index-b-place.is in_b in
    record { reach = rw (x, y) (c.requires.reaches i (k - i) in_a in_b) }

pub returns-in_err-total-clause-wide : goal.returns-in_err-total-clause-wide
returns-in_err-total-clause-wide g c =
    let r = g.C.Ring.ring in let xs = c.args.a.now in let ys = c.args.b.now in let i = c.saturating_sub-begin.result in let k = c.args.place in
    let first = c.saturating_sub-begin.ensures in let end = c.min-end.ensures in let test = c.if-end-begin.false in
    let in_a : i < length xs = omega arith in let in_b : k - i < length ys = omega arith in
    let x = at_read r xs i c.index-a-begin.result c.index-a-begin.is in_a in let y = at_read r ys (k - i) c.index-b-place.result c.index-b-place.is in_b in
    let p = err_from_is_err_and c.from_residual.result c.from_residual.ensures.1 in
    rw (p.1, p.2) (λ e. term_wide g.met.C.Ring.laws xs ys c.requires.a c.requires.b k i _ _ (omega arith) x y (c.in_err-total.ensures.wide e))

pub loop-i-init : goal.loop-i-init
loop-i-init g c =
    let r = g.C.Ring.ring in let xs = c.args.a.now in let ys = c.args.b.now in let i = c.saturating_sub-begin.result in let k = c.args.place in
    let first = c.saturating_sub-begin.ensures in let end = c.min-end.ensures in let test = c.if-end-begin.false in
    let in_a : i < length xs = omega arith in let in_b : k - i < length ys = omega arith in
    let x = at_read r xs i c.index-a-begin.result c.index-a-begin.is in_a in let y = at_read r ys (k - i) c.index-b-place.result c.index-b-place.is in_b in
    record { within = omega arith; summed = summed_first g.met.C.Ring.laws xs ys c.requires.a c.requires.b k i _ _ c.in_ok-total.total (omega arith) x y c.in_ok-total.ensures.value }

pub mul-requires-in-loop-i : goal.mul-requires-in-loop-i
mul-requires-in-loop-i g c =
    let r = g.C.Ring.ring in let xs = c.args.a.now in let ys = c.args.b.now in let i = c.loop-i.i in let k = c.args.place in
    let first = c.saturating_sub-begin.ensures in let end = c.min-end.ensures in let test = c.loop-i-test.true in let begun = c.loop-i.auto.i in
    let in_a : i < length xs = omega arith in let in_b : k - i < length ys = omega arith in
    let x = at_read r xs i c.index-a-i.result c.index-a-i.is in_a in let y = at_read r ys (k - i) c.index-b-place-in-loop-i.result c.index-b-place-in-loop-i.is in_b in
    record { reach = rw (x, y) (c.requires.reaches i (k - i) in_a in_b) }

pub returns-in_err-mul-clause-wide : goal.returns-in_err-mul-clause-wide
returns-in_err-mul-clause-wide g c =
    let r = g.C.Ring.ring in let xs = c.args.a.now in let ys = c.args.b.now in let i = c.loop-i.i in let k = c.args.place in
    let first = c.saturating_sub-begin.ensures in let end = c.min-end.ensures in let test = c.loop-i-test.true in let begun = c.loop-i.auto.i in
    let in_a : i < length xs = omega arith in let in_b : k - i < length ys = omega arith in
    let x = at_read r xs i c.index-a-i.result c.index-a-i.is in_a in let y = at_read r ys (k - i) c.index-b-place-in-loop-i.result c.index-b-place-in-loop-i.is in_b in
    let p = err_from_is_err_and c.from_residual-in_err-mul.result c.from_residual-in_err-mul.ensures.1 in
    rw (p.1, p.2) (λ e. term_wide g.met.C.Ring.laws xs ys c.requires.a c.requires.b k i _ _ (omega arith) x y (c.in_err-mul.ensures.wide e))

pub returns-in_err-total-2-clause-wide : goal.returns-in_err-total-2-clause-wide
returns-in_err-total-2-clause-wide g c =
    let r = g.C.Ring.ring in let xs = c.args.a.now in let ys = c.args.b.now in let i = c.loop-i.i in let k = c.args.place in
    let first = c.saturating_sub-begin.ensures in let end = c.min-end.ensures in let test = c.loop-i-test.true in let begun = c.loop-i.auto.i in
    let in_a : i < length xs = omega arith in let in_b : k - i < length ys = omega arith in
    let x = at_read r xs i c.index-a-i.result c.index-a-i.is in_a in let y = at_read r ys (k - i) c.index-b-place-in-loop-i.result c.index-b-place-in-loop-i.is in_b in
    let p = err_from_is_err_and c.from_residual-in_err-total-2.result c.from_residual-in_err-total-2.ensures.1 in
    rw (p.1, p.2) (λ e. sum_wide g.met.C.Ring.laws xs ys c.requires.a c.requires.b k g.met.C.Ring.sizes i c.loop-i.total _ _ c.in_ok-mul.field-0 (omega arith) c.loop-i.invariant.summed x y c.in_ok-mul.ensures.value (c.in_err-total-2.ensures.wide e))

pub loop-i-preserved : goal.loop-i-preserved
loop-i-preserved g c =
    let r = g.C.Ring.ring in let xs = c.args.a.now in let ys = c.args.b.now in let i = c.loop-i.i in let k = c.args.place in
    let first = c.saturating_sub-begin.ensures in let end = c.min-end.ensures in let test = c.loop-i-test.true in let begun = c.loop-i.auto.i in
    let in_a : i < length xs = omega arith in let in_b : k - i < length ys = omega arith in
    let x = at_read r xs i c.index-a-i.result c.index-a-i.is in_a in let y = at_read r ys (k - i) c.index-b-place-in-loop-i.result c.index-b-place-in-loop-i.is in_b in
    record { within = omega arith; summed = summed_more g.met.C.Ring.laws xs ys c.requires.a c.requires.b k i c.loop-i.total _ _ c.in_ok-mul.field-0 c.in_ok-total-2.total c.loop-i.invariant.summed x y c.in_ok-mul.ensures.value c.in_ok-total-2.ensures.value }

pub returns-clause-value : goal.returns-clause-value
returns-clause-value g c =
    let xs = c.args.a.now in let ys = c.args.b.now in let end = c.min-end.ensures in
    summed_all g.met.C.Ring.laws xs ys c.requires.a c.requires.b c.args.place c.loop-i.i c.loop-i.total c.loop-i.invariant.summed c.loop-i.invariant.within (omega arith)
