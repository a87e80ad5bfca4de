use Rattle.tv_text.proofs.Printing.{flat_map-whole}
use Rattle.tv_spec_text.specs.Lines.{line_text}
use Rattle.tv_spec_text.specs.Files.{point_line}
use Rattle.tv_grids.proofs.print.put_points.Goals as goal

pub returns : goal.returns
returns c = flat_map-whole (λ t. line_text (point_line t)) _ _ c.args.points.now c.loop-point.point-index c.loop-point-test.false c.loop-point.invariant
