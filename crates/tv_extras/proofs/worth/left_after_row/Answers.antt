use Rattle.std.proofs.Common.{arith}
use Rattle.tv_extras.proofs.Room.{row-none, row-more, row-within}
use Rattle.tv_extras.proofs.worth.left_after_row.Goals as goal

pub loop-y-init : goal.loop-y-init
loop-y-init c = let none = row-none c.args.legs.now c.args.x c.args.height in omega arith

pub returns-then-left-room : goal.returns-then-left-room
returns-then-left-room c =
    let within = row-within c.args.legs.now c.args.x c.loop-y.y c.args.width c.args.height c.loop-y-test.true in
    omega (arith, c.loop-y.invariant, c.column_room-room.ensures)

pub loop-y-preserved : goal.loop-y-preserved
loop-y-preserved c =
    let more = row-more c.args.legs.now c.args.x c.loop-y.y c.args.height in
    omega (arith, c.loop-y.invariant, c.column_room-room.ensures)
