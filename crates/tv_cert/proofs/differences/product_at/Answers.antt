use Rattle.std.proofs.Common.{rules, w64, SFits, sym, ◌∙◌, arith}
use Rattle.std.proofs.lemmas.Int.{ints, to_z-of_z}
use Rattle.tv_cert.proofs.Unequal.{value-below, value-entry}
use Rattle.tv_cert.proofs.differences.product_at.Goals as goal

pub returns-then-weight-lt0 : goal.returns-then-weight-lt0
returns-then-weight-lt0 c =
    let fits : SFits w64 c.weight_of-weight.result = search rules in
    let exponent = to_z-of_z w64 c.args.exponent c.ranges.exponent in
    let weight = c.weight_of-weight.ensures.value in
    let test = rw (to_z-of_z w64 c.weight_of-weight.result fits) at c.if-weight-lt0.true in
    record { value = c.whole.ensures.value ∙ sym (value-below c.args.base c.args.row.now c.args.exponent (omega (arith, ints, rw exponent at weight))) }

pub returns-else-weight-lt0 : goal.returns-else-weight-lt0
returns-else-weight-lt0 c =
    let z = c.weight_of-weight.result in
    let fits : SFits w64 z = search rules in
    let exponent = to_z-of_z w64 c.args.exponent c.ranges.exponent in
    let is = to_z-of_z w64 z fits in
    let test = rw is at c.if-weight-lt0.false in
    let entry = rw (exponent, is) at c.entry_at.ensures.value in
    record {
      value = entry ∙ value-entry c.args.base c.args.row.now c.args.exponent z (rw exponent at c.weight_of-weight.ensures.value)
          (omega (arith, ints));
    }
