use Rattle.std.proofs.Common.{◌≡◌, ◌-◌, ◌++◌}
use Rattle.std.specs.Prelude.{filter}
use Rattle.tv_cells.specs.Grid.{heights}
use Rattle.tv_extras.specs.Room.{is_worth}
use Rattle.tv_extras.proofs.worth.push_column.Given as goal

abbrev pub invariant-loop-z : goal.invariant-loop-z
invariant-loop-z l = l.cells.items ++ filter (is_worth l.legs l.most) (heights l.x l.y l.z (l.height - l.z)) ≡ l.initial.cells.items ++ filter (is_worth l.legs l.most) (heights l.x l.y 0 l.height)
