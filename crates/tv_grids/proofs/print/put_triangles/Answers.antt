use Rattle.tv_text.proofs.Printing.{flat_map-whole}
use Rattle.tv_spec_text.specs.Lines.{line_text}
use Rattle.tv_spec_text.specs.Files.{triangle_line}
use Rattle.tv_grids.proofs.print.put_triangles.Goals as goal

pub returns : goal.returns
returns c = flat_map-whole (λ t. line_text (triangle_line t)) _ _ c.args.triangles.now c.loop-triangle.triangle-index c.loop-triangle-test.false c.loop-triangle.invariant
