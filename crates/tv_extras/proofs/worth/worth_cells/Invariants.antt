use Rattle.std.proofs.Common.{◌≡◌, ◌-◌, ◌++◌}
use Rattle.std.specs.Prelude.{filter}
use Rattle.tv_cells.proofs.Diagonals.{diagonals}
use Rattle.tv_extras.specs.Room.{is_worth}
use Rattle.tv_extras.proofs.worth.worth_cells.Given as goal

abbrev pub invariant-loop-k : goal.invariant-loop-k
invariant-loop-k l = l.cells.items ++ filter (is_worth l.legs l.most) (diagonals l.side l.k (l.k-end - l.k)) ≡ filter (is_worth l.legs l.most) (diagonals l.side 0 l.k-end)
