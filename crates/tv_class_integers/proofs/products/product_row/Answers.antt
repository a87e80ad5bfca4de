use Rattle.std.proofs.Common.{◌-ℤ◌, ap, Err, arith}
use Rattle.std.proofs.lemmas.Int.{ints}
use Rattle.tv_ring.specs.Whole.{wholes}
use Rattle.tv_ring.specs.Sums.{at}
use Rattle.tv_laws_series.proofs.Listed.{at_read}
use Rattle.tv_class_integers.proofs.RowSteps.{row-more}
use Rattle.tv_class_integers.proofs.products.product_row.Goals as goal

pub returns-in-Err-clause-wide : goal.returns-in-Err-clause-wide
returns-in-Err-clause-wide c =
    let t = c.loop-weight.weight in
    let first = at_read wholes c.args.product.now t c.index-product-weight.result c.index-product-weight.is c.loop-weight-test.true in
    let second = at_read wholes c.args.powers.now t c.index-powers-weight.result c.index-powers-weight.is (omega arith) in
    let wide = c.in-Err.ensures.wide (ap Err c.in-Err.ensures.no_memory) in
    (c.loop-weight-test.true, omega (arith, ints, first, second, wide))

pub loop-weight-preserved : goal.loop-weight-preserved
loop-weight-preserved c =
    let t = c.loop-weight.weight in
    let first = at_read wholes c.args.product.now t c.index-product-weight.result c.index-product-weight.is c.loop-weight-test.true in
    let second = at_read wholes c.args.powers.now t c.index-powers-weight.result c.index-powers-weight.is (omega arith) in
    row-more (λ s. at wholes c.args.product.now s -ℤ at wholes c.args.powers.now s) t _ _ _ c.loop-weight.invariant
    c.in_ok-push-in-Ok.ensures.items (omega (arith, ints, first, second, c.in-Ok.ensures.value))
