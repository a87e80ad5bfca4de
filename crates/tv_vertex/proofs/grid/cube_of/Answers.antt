use Rattle.std.proofs.Common.{arith, sym, ◌∙◌}
use Rattle.tv_vertex.proofs.Writing.{diagonals-next, cube-none, cube-done}
use Rattle.tv_vertex.proofs.grid.cube_of.Goals as goal

pub returns-then-side-eq0 : goal.returns-then-side-eq0
returns-then-side-eq0 c = c.new-cells.ensures.items ∙ sym (cube-none c.args.side c.if-side-eq0.true)

pub loop-k-preserved : goal.loop-k-preserved
loop-k-preserved c =
    diagonals-next c.args.side _ c.loop-k.k c.push_diagonal.new.cells.items c.loop-k.cells.items _ c.loop-k-test.true c.in_ok-push_diagonal.ensures c.loop-k.invariant

pub returns : goal.returns
returns c = cube-done c.args.side c.loop-k.k c.loop-k.cells.items (omega arith) (omega arith) c.loop-k.invariant
