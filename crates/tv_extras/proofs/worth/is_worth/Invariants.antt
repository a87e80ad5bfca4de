use Rattle.std.proofs.Common.{◌≡◌, ◌+◌}
use Rattle.tv_extras.proofs.Room.{rows_room}
use Rattle.tv_extras.proofs.worth.is_worth.Given as goal

abbrev pub invariant-loop-i : goal.invariant-loop-i
invariant-loop-i l = l.left + rows_room l.legs l.y l.z l.i ≡ l.most
