use Rattle.std.proofs.Common.{subst, ◌∙◌, ◌++◌, ap}
use Rattle.std.specs.Prelude.{string_bytes}
use Rattle.std.specs.List.{AllByRecursion}
use Rattle.std.proofs.lemmas.List.{take_all}
use Rattle.tv_spec_text.specs.Lines.{line_text}
use Rattle.tv_text.proofs.Printing.{flat_map-step}
use Rattle.tv_reports.proofs.Printing.{lines-whole}
use Rattle.tv_reports.proofs.IntegerSections.{values_more}
use Rattle.tv_reports.specs.IntegerSections.{value_line, IsSmallValue}
use Rattle.tv_reports.proofs.gv.put_values.Goals as goal

pub loop-value-preserved : goal.loop-value-preserved
loop-value-preserved c = record {
  text = flat_map-step (λ g. line_text (value_line g)) _ _ _ c.args.values.now c.loop-value.value-index c.value-item.result c.loop-value-test.true c.loop-value.invariant.text
      (c.in_ok-put_value.ensures.text ∙ ap (λ g. string_bytes c.loop-value.text ++ line_text (value_line g)) c.value-item.is);
  small = values_more c.args.values.now c.loop-value.value-index c.value-item.result c.loop-value-test.true c.value-item.is c.loop-value.invariant.small c.in_ok-put_value.ensures.small;
}

pub returns : goal.returns
returns c = record {
  text = lines-whole value_line _ _ c.args.values.now c.loop-value.value-index c.loop-value-test.false c.loop-value.invariant.text;
  small = subst (AllByRecursion IsSmallValue) (take_all c.loop-value.value-index c.args.values.now c.loop-value-test.false) c.loop-value.invariant.small;
}
