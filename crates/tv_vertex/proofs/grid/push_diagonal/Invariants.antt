use Rattle.std.proofs.Common.{◌≡◌, ◌-◌, ◌++◌}
use Rattle.tv_cells.specs.Grid.{columns}
use Rattle.tv_vertex.proofs.grid.push_diagonal.Given as goal

abbrev pub invariant-loop-d : goal.invariant-loop-d
invariant-loop-d l = l.cells.items ++ columns l.x l.y l.side l.d (l.d-end - l.d) ≡ l.initial.cells.items ++ columns l.x l.y l.side 0 l.d-end
