use Rattle.tv_reports.proofs.Printing.{lines-whole}
use Rattle.tv_spec_text.specs.Checks.{open_line}
use Rattle.tv_reports.proofs.check.put_open_edges.Goals as goal

pub returns : goal.returns
returns c = lines-whole open_line _ _ c.args.edges.now c.loop-edge.edge-index c.loop-edge-test.false c.loop-edge.invariant
