use Rattle.std.proofs.Common.{◌≡◌, ◌++◌, drop}
use Rattle.std.specs.Prelude.{string_bytes}
use Rattle.std.specs.List.{flat_map}
use Rattle.tv_spec_text.specs.Lines.{line_text}
use Rattle.tv_spec_reports.specs.Boxes.{box_lines}
use Rattle.tv_reports.specs.Configs.{cells_of}
use Rattle.tv_reports.proofs.boxes.put_corners.Given as goal

abbrev pub invariant-loop-t : goal.invariant-loop-t
invariant-loop-t l = string_bytes l.text ++ flat_map line_text (box_lines l.t (cells_of (drop l.t l.extras))) ≡ string_bytes l.initial.text ++ flat_map line_text (box_lines 0 (cells_of l.extras))
