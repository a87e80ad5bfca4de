use Rattle.std.proofs.Common.{rules, refl, pos, ◌+ℤ◌, sym, ◌∙◌, w64, SFits, to_z, arith}
use Rattle.std.proofs.lemmas.Int.{ints, to_z-of_z}
use Rattle.tv_lattice.proofs.Sums.{small-fits}
use Rattle.tv_cert.proofs.Unequal.{compared-first, compared-next, compared-all}
use Rattle.tv_cert.proofs.differences.first_difference.Goals as goal

pub loop-exponent-init : goal.loop-exponent-init
loop-exponent-init c =
    let s = c.start_in-exponent.result in
    let fits : SFits w64 s = search rules in
    rw (to_z-of_z w64 s fits)
    (compared-first c.args.family.now c.args.class.now c.args.base c.args.row.now s c.start_in-exponent.ensures.within
    c.start_in-exponent.ensures.least c.start_in-exponent.ensures.below)

pub product_at-product-requires-clause-room : goal.product_at-product-requires-clause-room
product_at-product-requires-clause-room c =
    let u = c.upto-exponent-end.result in
    let fits : SFits w64 u = search rules in
    let within = c.upto-exponent-end.ensures.within in
    let upto_is = c.upto-exponent-end.ensures.value in
    let test = rw (to_z-of_z w64 u fits, to_z-of_z w64 (u +ℤ pos 1) (small-fits (u +ℤ pos 1) (omega (arith, ints)))) at c.loop-exponent-test.true in
    let room = c.requires.room in
    omega (arith, ints)

pub loop-exponent-preserved : goal.loop-exponent-preserved
loop-exponent-preserved c =
    let e = to_z w64 c.loop-exponent.exponent-bits in
    let u = c.upto-exponent-end.result in
    let fits : SFits w64 u = search rules in
    let within = c.upto-exponent-end.ensures.within in
    let upto_is = c.upto-exponent-end.ensures.value in
    let test = rw (to_z-of_z w64 u fits, to_z-of_z w64 (u +ℤ pos 1) (small-fits (u +ℤ pos 1) (omega (arith, ints)))) at c.loop-exponent-test.true in
    let most = c.requires.upto in
    let before = c.loop-exponent.invariant.within in
    let next = to_z-of_z w64 (e +ℤ pos 1) (small-fits (e +ℤ pos 1) (omega (arith, ints))) in
    rw next (compared-next c.args.family.now c.args.class.now c.args.base c.args.row.now e (omega (arith, ints))
    c.loop-exponent.invariant (sym c.coefficient_in-series.ensures.value ∙ (c.if-not-same.ensures.same.0 refl ∙
    c.product_at-product.ensures.value)))

pub returns : goal.returns
returns c =
    let e = to_z w64 c.loop-exponent.exponent-bits in
    let u = c.upto-exponent-end.result in
    let fits : SFits w64 u = search rules in
    let within = c.upto-exponent-end.ensures.within in
    let upto_is = c.upto-exponent-end.ensures.value in
    let test = rw (to_z-of_z w64 u fits, to_z-of_z w64 (u +ℤ pos 1) (small-fits (u +ℤ pos 1) (omega (arith, ints)))) at c.loop-exponent-test.false in
    record {
      found = compared-all c.args.family.now c.args.class.now c.args.base c.args.row.now e c.args.family.now.upto
          (omega (arith, ints)) c.loop-exponent.invariant;
    }
