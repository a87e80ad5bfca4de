use Rattle.std.proofs.Common.{◌≡◌, ◌++◌, take}
use Rattle.std.specs.Prelude.{string_bytes}
use Rattle.std.specs.List.{flat_map}
use Rattle.tv_spec_text.specs.Lines.{line_text}
use Rattle.tv_spec_text.specs.Reports.{term_line}
use Rattle.tv_text.proofs.series.put_terms.Given as goal

abbrev pub invariant-loop-term : goal.invariant-loop-term
invariant-loop-term l = string_bytes l.text ≡ string_bytes l.initial.text ++ flat_map (λ t. line_text (term_line t)) (take l.term-index l.terms)
