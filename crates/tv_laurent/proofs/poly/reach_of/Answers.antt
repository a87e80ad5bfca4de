use Rattle.std.proofs.Common.{◌≡◌, ◌+◌, suc, ◌∙◌, ap, arith, refl, sym, to_z, of_z, w64}
use Rattle.std.proofs.lemmas.Int.{ints}
use Rattle.tv_ring.specs.Sums.{at}
use Rattle.tv_laws_series.specs.Polynomials.{greatest_below}
use Rattle.tv_laws_series.proofs.Listed.{at_read}
use Rattle.tv_laws_series.proofs.PolyReach.{greatest-none, greatest-more}
use Rattle.tv_laurent.specs.PolyCalls.{outward}
use Rattle.tv_laurent.proofs.PolyResults.{outward_is}
use Rattle.tv_laurent.proofs.poly.reach_of.Goals as goal

pub loop-i-init : goal.loop-i-init
loop-i-init g c = sym (greatest-none _)

pub overflow_add-unsigned_abs : goal.overflow_add-unsigned_abs
overflow_add-unsigned_abs g c =
    let r = g.C.Ring.ring in let i = c.loop-i.i in let x = at_read r c.args.row.now i c.index-row-i.result c.index-row-i.is c.loop-i-test.true in
    let most = c.requires.outward i c.loop-i-test.true in let o = outward_is r c.args.low (at r c.args.row.now) i in
    let reach = c.reach.ensures.value ∙ ap r.reach x in let low = c.requires.low in let count = c.requires.count in let test = c.loop-i-test.true in
    let a = c.unsigned_abs.ensures.value in omega (arith, ints)

pub loop-i-preserved : goal.loop-i-preserved
loop-i-preserved g c =
    let r = g.C.Ring.ring in let i = c.loop-i.i in let x = at_read r c.args.row.now i c.index-row-i.result c.index-row-i.is c.loop-i-test.true in
    let f = outward r c.args.low (at r c.args.row.now) in let o = outward_is r c.args.low (at r c.args.row.now) i in
    let reach = c.reach.ensures.value ∙ ap r.reach x in let low = c.requires.low in let count = c.requires.count in let test = c.loop-i-test.true in
    let a = c.unsigned_abs.ensures.value in let n = c.max-greatest.ensures in
    let k : to_z w64 (of_z w64 c.args.low) ≡ c.args.low = omega (arith, ints) in
    let before : c.loop-i.greatest ≡ greatest_below f i = c.loop-i.invariant ∙ rw k refl in
    let s : i + 1 ≡ suc i = omega arith in let more = greatest-more f i in
    let after : c.max-greatest.result ≡ greatest_below f (i + 1) = rw (s, more) (omega (arith, ints)) in
    after ∙ rw k refl
