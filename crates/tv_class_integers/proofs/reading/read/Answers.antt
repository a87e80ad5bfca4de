use Rattle.std.proofs.Common.{ap, Err, ◌∙◌, arith, length, ◌<◌}
use Rattle.tv_ring.specs.Whole.{wholes}
use Rattle.tv_ring.specs.Sums.{at}
use Rattle.tv_laws_series.proofs.Listed.{at_read}
use Rattle.tv_class_integers.proofs.Readings.{read-none, read-more, value-is, wide-value, fault-power}
use Rattle.tv_class_integers.proofs.reading.read.Goals as goal

pub loop-weight-init : goal.loop-weight-init
loop-weight-init c =
    read-none c.args.base (at wholes c.args.series.now) (at wholes c.args.product.now) (length c.args.product.now) _ _
    c.in_ok-values.ensures.items c.in_ok-powers.ensures.value

pub returns-in-Err-with_integer-clause-wide : goal.returns-in-Err-with_integer-clause-wide
returns-in-Err-with_integer-clause-wide c =
    let S = at wholes c.args.series.now in let R = at wholes c.args.product.now in
    let s = c.loop-weight.weight in
    let first = at_read wholes c.args.series.now s c.index-series-weight.result c.index-series-weight.is (omega arith) in
    let second = at_read wholes c.args.product.now s c.index-product-weight.result c.index-product-weight.is (omega arith) in
    let within : s < length c.args.product.now = omega arith in
    let third = at_read wholes c.loop-weight.powers.items s c.index.result.now c.index.ensures (omega arith) ∙
    c.loop-weight.invariant.gathered.each s within in
    let value = value-is c.args.base S R s c.in-Ok.value c.index-series-weight.result c.index-product-weight.result c.index.result.now first second third c.in-Ok.ensures.value in
    fault-power c.args.base S R (length c.args.product.now) s c.loop-weight.powers.items c.in-Ok.value
    c.loop-weight.invariant.gathered value c.loop-weight-test.true c.in-Err-with_integer.fault c.in-Err-with_integer.ensures.wide

pub returns-in-Err-clause-wide : goal.returns-in-Err-clause-wide
returns-in-Err-clause-wide c =
    let S = at wholes c.args.series.now in let R = at wholes c.args.product.now in
    let s = c.loop-weight.weight in
    let first = at_read wholes c.args.series.now s c.index-series-weight.result c.index-series-weight.is (omega arith) in
    let second = at_read wholes c.args.product.now s c.index-product-weight.result c.index-product-weight.is (omega arith) in
    let within : s < length c.args.product.now = omega arith in
    let third = at_read wholes c.loop-weight.powers.items s c.index.result.now c.index.ensures (omega arith) ∙
    c.loop-weight.invariant.gathered.each s within in
    wide-value c.args.base S R (length c.args.product.now) s c.index-series-weight.result c.index-product-weight.result c.index.result.now
    first second third c.loop-weight-test.true within (c.in-Err.ensures.wide (ap Err c.in-Err.ensures.no_memory))

pub loop-weight-preserved : goal.loop-weight-preserved
loop-weight-preserved c =
    let S = at wholes c.args.series.now in let R = at wholes c.args.product.now in
    let s = c.loop-weight.weight in
    let first = at_read wholes c.args.series.now s c.index-series-weight.result c.index-series-weight.is (omega arith) in
    let second = at_read wholes c.args.product.now s c.index-product-weight.result c.index-product-weight.is (omega arith) in
    let within : s < length c.args.product.now = omega arith in
    let third = at_read wholes c.loop-weight.powers.items s c.index.result.now c.index.ensures (omega arith) ∙
    c.loop-weight.invariant.gathered.each s within in
    let value = value-is c.args.base S R s c.in-Ok.value c.index-series-weight.result c.index-product-weight.result c.index.result.now first second third c.in-Ok.ensures.value in
    read-more c.args.base S R (length c.args.product.now) s c.loop-weight.values.items _ c.loop-weight.powers.items _ c.in-Ok.value
    c.loop-weight.invariant c.in_ok-push-in-Ok.ensures.items value
    (rw c.loop-weight.invariant.gathered.count at c.in-Ok-with_integer.ensures.value)
