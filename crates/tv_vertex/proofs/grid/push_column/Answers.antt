use Rattle.tv_vertex.proofs.Writing.{column-next}
use Rattle.tv_vertex.proofs.grid.push_column.Goals as goal

pub loop-z-preserved : goal.loop-z-preserved
loop-z-preserved c =
    column-next c.args.x c.args.y c.args.height c.loop-z.z c.push.new.self.items c.loop-z.cells.items _ c.loop-z-test.true c.in_ok-push.ensures.items c.loop-z.invariant
