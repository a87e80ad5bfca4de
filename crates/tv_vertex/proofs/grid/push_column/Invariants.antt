use Rattle.std.proofs.Common.{◌≡◌, ◌-◌, ◌++◌}
use Rattle.tv_cells.specs.Grid.{heights}
use Rattle.tv_vertex.proofs.grid.push_column.Given as goal

abbrev pub invariant-loop-z : goal.invariant-loop-z
invariant-loop-z l = l.cells.items ++ heights l.x l.y l.z (l.height - l.z) ≡ l.initial.cells.items ++ heights l.x l.y 0 l.height
