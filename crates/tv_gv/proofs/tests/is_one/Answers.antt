use Rattle.std.proofs.Common.{rules, w64, SFits, arith}
use Rattle.std.proofs.lemmas.Int.{ints, to_z-of_z}
use Rattle.tv_gv.proofs.TestFamilies.{none-elsewhere}
use Rattle.tv_gv.proofs.tests.is_one.Goals as goal

pub returns-clause-none : goal.returns-clause-none
returns-clause-none c =
    let fits_low : SFits w64 c.low.result = search rules in
    let fits_upto : SFits w64 c.upto.result = search rules in
    let low = rw (to_z-of_z w64 c.low.result fits_low, c.low.ensures.value) at c.if-low-lt0.false in
    let last = rw (to_z-of_z w64 c.upto.result fits_upto, c.upto.ensures.value) at c.if-upto-gt99.false in
    λ _. none-elsewhere c.args.series.now (omega (arith, ints)) (omega (arith, ints))
    (λ k up less. c.loop-weight.invariant k up (omega arith))
