use Rattle.std.proofs.Common.{◌≡◌, ◌++◌, take}
use Rattle.std.specs.Prelude.{string_bytes}
use Rattle.std.specs.List.{flat_map}
use Rattle.tv_spec_text.specs.Lines.{line_text}
use Rattle.tv_spec_text.specs.Files.{triangle_line}
use Rattle.tv_grids.proofs.print.put_triangles.Given as goal

abbrev pub invariant-loop-triangle : goal.invariant-loop-triangle
invariant-loop-triangle l = string_bytes l.text ≡ string_bytes l.initial.text ++ flat_map (λ t. line_text (triangle_line t)) (take l.triangle-index l.triangles)
