use Rattle.std.proofs.Common.{◌≡◌, ◌+◌, ◌-◌, ◌*◌, ◌≤◌}
use Rattle.tv_cells.specs.Costs.{overlaps}
use Rattle.tv_cells.proofs.Diagonals.{diagonals}
use Rattle.tv_cells.proofs.overlap.whole_cost.Given as goal

abbrev pub invariant-loop-k : goal.invariant-loop-k
invariant-loop-k l = record {
  sum : l.total + overlaps l.legs (diagonals l.side l.k (l.k-end - l.k)) ≡ overlaps l.legs (diagonals l.side 0 l.k-end);
  bound : l.total ≤ 1152 * l.k;
}
