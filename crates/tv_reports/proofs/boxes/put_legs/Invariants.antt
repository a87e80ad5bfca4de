use Rattle.std.proofs.Common.{◌≡◌, ◌++◌, drop}
use Rattle.std.specs.Prelude.{string_bytes}
use Rattle.std.specs.List.{flat_map}
use Rattle.tv_spec_text.specs.Lines.{line_text}
use Rattle.tv_spec_reports.specs.Boxes.{leg_lines}
use Rattle.tv_reports.proofs.boxes.put_legs.Given as goal

abbrev pub invariant-loop-k : goal.invariant-loop-k
invariant-loop-k l = string_bytes l.text ++ flat_map line_text (leg_lines (drop l.k l.edges) (drop l.k l.legs)) ≡ string_bytes l.initial.text ++ flat_map line_text (leg_lines l.edges l.legs)
