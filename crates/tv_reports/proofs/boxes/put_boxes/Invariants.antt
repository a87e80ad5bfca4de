use Rattle.std.proofs.Common.{◌≡◌, ◌++◌, take}
use Rattle.std.specs.Prelude.{string_bytes}
use Rattle.std.specs.List.{flat_map}
use Rattle.tv_spec_text.specs.Lines.{line_text}
use Rattle.tv_spec_reports.specs.Boxes.{box_line}
use Rattle.tv_reports.proofs.boxes.put_boxes.Given as goal

abbrev pub invariant-loop-cell : goal.invariant-loop-cell
invariant-loop-cell l = string_bytes l.text ≡ string_bytes l.initial.text ++ flat_map (λ c. line_text (box_line l.corner c)) (take l.cell-index l.cells)
