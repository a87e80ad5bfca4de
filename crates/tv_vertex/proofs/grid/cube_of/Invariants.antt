use Rattle.std.proofs.Common.{◌≡◌, ◌-◌, ◌++◌}
use Rattle.tv_cells.proofs.Diagonals.{diagonals}
use Rattle.tv_vertex.proofs.grid.cube_of.Given as goal

abbrev pub invariant-loop-k : goal.invariant-loop-k
invariant-loop-k l = l.cells.items ++ diagonals l.side l.k (l.k-end - l.k) ≡ diagonals l.side 0 l.k-end
