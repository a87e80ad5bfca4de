use Rattle.std.proofs.Common.{◌≡◌, ◌+◌}
use Rattle.tv_extras.specs.Room.{row_room}
use Rattle.tv_extras.proofs.worth.left_after_row.Given as goal

abbrev pub invariant-loop-y : goal.invariant-loop-y
invariant-loop-y l = l.left + row_room l.legs l.x l.y l.height ≡ l.number
