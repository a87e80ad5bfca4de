use Rattle.tv_vertex.proofs.Writing.{columns-next}
use Rattle.tv_vertex.proofs.grid.push_diagonal.Goals as goal

pub loop-d-preserved : goal.loop-d-preserved
loop-d-preserved c =
    columns-next c.saturating_sub-x.result c.saturating_sub-y.result c.args.side _ c.loop-d.d c.push_column.new.cells.items c.loop-d.cells.items _ c.loop-d-test.true c.in_ok-push_column.ensures c.loop-d.invariant
