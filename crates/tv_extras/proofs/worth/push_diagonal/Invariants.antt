use Rattle.std.proofs.Common.{◌≡◌, ◌-◌, ◌++◌}
use Rattle.std.specs.Prelude.{filter}
use Rattle.tv_cells.specs.Grid.{columns}
use Rattle.tv_extras.specs.Room.{is_worth}
use Rattle.tv_extras.proofs.worth.push_diagonal.Given as goal

abbrev pub invariant-loop-d : goal.invariant-loop-d
invariant-loop-d l = l.cells.items ++ filter (is_worth l.legs l.most) (columns l.x l.y l.side l.d (l.d-end - l.d)) ≡ l.initial.cells.items ++ filter (is_worth l.legs l.most) (columns l.x l.y l.side 0 l.d-end)
