use Rattle.tv_reports.proofs.Printing.{lines-whole}
use Rattle.tv_spec_reports.specs.Boxes.{box_line}
use Rattle.tv_reports.proofs.boxes.put_boxes.Goals as goal

pub returns : goal.returns
returns c = lines-whole (box_line c.args.corner) _ _ c.args.cells.now c.loop-cell.cell-index c.loop-cell-test.false c.loop-cell.invariant
