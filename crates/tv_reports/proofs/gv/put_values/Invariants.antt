use Rattle.std.proofs.Common.{◌≡◌, ◌++◌, take}
use Rattle.std.specs.Prelude.{string_bytes}
use Rattle.std.specs.List.{flat_map, AllByRecursion}
use Rattle.tv_spec_text.specs.Lines.{line_text}
use Rattle.tv_reports.specs.IntegerSections.{value_line, IsSmallValue}
use Rattle.tv_reports.proofs.gv.put_values.Given as goal

abbrev pub invariant-loop-value : goal.invariant-loop-value
invariant-loop-value l = record {
  text : string_bytes l.text ≡ string_bytes l.initial.text ++ flat_map (λ g. line_text (value_line g)) (take l.value-index l.values);
  small : AllByRecursion IsSmallValue (take l.value-index l.values);
}
