use Rattle.std.proofs.Common.{◌≡◌, ◌*ℤ◌, ◌∙◌, ap, sym, arith, below_more, true}
use Rattle.tv_ring.specs.Whole.{wholes}
use Rattle.tv_laws_series.proofs.Listed.{at_read}
use Rattle.tv_class_integers.specs.Readings.{sign_at}
use Rattle.tv_class_integers.proofs.differences.first_difference.Goals as goal

pub returns-then-not-same : goal.returns-then-not-same
returns-then-not-same c =
    let t = c.loop-weight.weight in
    let first = at_read wholes c.args.series.now t c.index-series-weight.result c.index-series-weight.is (omega arith) in
    let second = at_read wholes c.args.product.now t c.index-product-weight.result c.index-product-weight.is (omega arith) in
    record {
      found = record {
        within = c.loop-weight-test.true;
        before = c.loop-weight.invariant;
        series = first;
        product = c.signed-value.ensures.value ∙ ap (λ z. sign_at c.args.base t *ℤ z) second;
        differ = λ e. let same : c.same.result ≡ true = c.same.ensures.same.1 e in cc;
      };
    }

pub loop-weight-preserved : goal.loop-weight-preserved
loop-weight-preserved c =
    let t = c.loop-weight.weight in
    let first = at_read wholes c.args.series.now t c.index-series-weight.result c.index-series-weight.is (omega arith) in
    let second = at_read wholes c.args.product.now t c.index-product-weight.result c.index-product-weight.is (omega arith) in
    let same = c.same.ensures.same.0 c.if-not-same.false in
    below_more _ _ c.loop-weight.invariant
    (sym first ∙ (same ∙ (c.signed-value.ensures.value ∙ ap (λ z. sign_at c.args.base t *ℤ z) second)))
