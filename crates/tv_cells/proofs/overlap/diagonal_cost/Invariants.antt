use Rattle.std.proofs.Common.{◌≡◌, ◌+◌, ◌-◌, ◌*◌, ◌≤◌}
use Rattle.tv_cells.specs.Costs.{overlaps}
use Rattle.tv_cells.specs.Grid.{columns}
use Rattle.tv_cells.proofs.overlap.diagonal_cost.Given as goal

abbrev pub invariant-loop-d : goal.invariant-loop-d
invariant-loop-d l = record {
  sum : l.total + overlaps l.legs (columns l.x l.y l.side l.d (l.d-end - l.d)) ≡ overlaps l.legs (columns l.x l.y l.side 0 l.d-end);
  bound : l.total ≤ 48 * l.d;
}
