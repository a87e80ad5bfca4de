use Rattle.std.proofs.Common.{arith}
use Rattle.tv_extras.proofs.Room.{rows-none, rows-more, worth-not, worth-is}
use Rattle.tv_extras.proofs.worth.is_worth.Goals as goal

pub loop-i-init : goal.loop-i-init
loop-i-init c = let none = rows-none c.args.legs.now c.args.y c.args.z in omega arith

pub returns-in_default : goal.returns-in_default
returns-in_default c =
    worth-not c.args.legs.now c.args.most c.args.x c.args.y c.args.z c.loop-i.i c.loop-i.left c.loop-i.invariant c.in_default.ensures c.loop-i-test.true

pub loop-i-preserved : goal.loop-i-preserved
loop-i-preserved c =
    let more = rows-more c.args.legs.now c.args.y c.args.z c.loop-i.i in
    omega (arith, c.loop-i.invariant, c.in-Some.ensures)

pub returns : goal.returns
returns c = worth-is c.args.legs.now c.args.most c.args.x c.args.y c.args.z c.loop-i.i c.loop-i.left c.loop-i.invariant (omega arith)
