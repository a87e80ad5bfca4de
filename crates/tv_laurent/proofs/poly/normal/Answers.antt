use Rattle.std.proofs.Common.{length, pos, ap, arith}
use Rattle.std.proofs.lemmas.Int.{ints}
use Rattle.tv_laws_series.specs.Terms.{terms}
use Rattle.tv_laws_series.specs.Polynomials.{normal, poly_zero}
use Rattle.tv_laws_series.proofs.PolyKept.{same_kept, zero_kept, normal_kept}
use Rattle.tv_laurent.proofs.PolyResults.{nothing_left, what_is_left}
use Rattle.tv_laurent.proofs.poly.normal.Goals as goal

pub invariant_of-result : goal.invariant_of-result
invariant_of-result g c = let laws = g.met.C.Ring.laws in let sizes = g.met.C.Ring.sizes in same_kept laws sizes _ poly_zero (ap (terms (pos 0)) c.new.ensures.items) (zero_kept laws sizes)

pub returns-then-front-len-clause-value : goal.returns-then-front-len-clause-value
returns-then-front-len-clause-value g c =
    let xs = c.args.coefficients.items in let ok = c.args.coefficients.ok in let n = c.len.ensures in let test = c.if-front-len.true in
    nothing_left g.met.C.Ring.laws g.met.C.Ring.sizes c.args.low xs c.deref.result.now c.new.result.items c.leading-front.result c.deref.ensures.value c.new.ensures.items c.requires.values (omega arith) c.leading-front.ensures.zeros

pub invariant_of-result-2 : goal.invariant_of-result-2
invariant_of-result-2 g c =
    let laws = g.met.C.Ring.laws in let sizes = g.met.C.Ring.sizes in let xs = c.args.coefficients.items in let front = c.leading-front.result in let end = c.ending-end.result in
    let ok = c.args.coefficients.ok in let n = c.len.ensures in let test = c.if-front-len.false in let most = c.leading-front.ensures.within in let e = ap length c.deref.ensures.value in
    let low = c.requires.low in let count = c.requires.count in
    same_kept laws sizes _ (normal g.C.Ring.ring c.args.low xs)
    (what_is_left laws sizes c.args.low _ xs c.deref.result.now c.deref-2.result.now c.truncate.new.self.items c.rotate_left.new.self.items c.truncate-2.new.self.items front end c.deref.ensures.value c.deref-2.ensures.value
    (omega (arith, ints)) c.requires.values (omega arith) c.ending-end.ensures.within c.leading-front.ensures.zeros c.leading-front.ensures.first c.ending-end.ensures.zeros c.ending-end.ensures.last
    c.truncate.ensures.items c.rotate_left.ensures.items c.truncate-2.ensures.items)
    (normal_kept laws sizes c.args.low xs c.requires.values c.requires.reach)

pub returns-clause-value : goal.returns-clause-value
returns-clause-value g c =
    let laws = g.met.C.Ring.laws in let sizes = g.met.C.Ring.sizes in let xs = c.args.coefficients.items in let front = c.leading-front.result in let end = c.ending-end.result in
    let ok = c.args.coefficients.ok in let n = c.len.ensures in let test = c.if-front-len.false in let most = c.leading-front.ensures.within in let e = ap length c.deref.ensures.value in
    let low = c.requires.low in let count = c.requires.count in
    what_is_left laws sizes c.args.low _ xs c.deref.result.now c.deref-2.result.now c.truncate.new.self.items c.rotate_left.new.self.items c.truncate-2.new.self.items front end c.deref.ensures.value c.deref-2.ensures.value
    (omega (arith, ints)) c.requires.values (omega arith) c.ending-end.ensures.within c.leading-front.ensures.zeros c.leading-front.ensures.first c.ending-end.ensures.zeros c.ending-end.ensures.last
    c.truncate.ensures.items c.rotate_left.ensures.items c.truncate-2.ensures.items
