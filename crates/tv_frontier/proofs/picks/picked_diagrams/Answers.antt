use Rattle.std.proofs.Common.{refl}
use Rattle.tv_frontier.specs.Picks.{picks}
use Rattle.tv_frontier.proofs.Picked.{picked-next, picked-last}
use Rattle.tv_frontier.proofs.picks.picked_diagrams.Goals as goal

pub loop-k-init : goal.loop-k-init
loop-k-init c = let e = c.new-picked.ensures.items in rw e refl

pub loop-k-preserved : goal.loop-k-preserved
loop-k-preserved c =
    let f = c.args.flags.now in let xs = c.args.diagrams.now in
    picked-next f xs c.loop-k.picked.items c.copy_if.new.picked.items (picks f xs) c.loop-k.k c.takes.result c.index-diagrams-k.result c.loop-k-test.true c.index-diagrams-k.is c.takes.ensures c.in_ok-copy_if.ensures c.loop-k.invariant

pub returns : goal.returns
returns c = picked-last c.args.flags.now c.args.diagrams.now c.loop-k.picked.items (picks c.args.flags.now c.args.diagrams.now) c.loop-k.k c.loop-k-test.false c.loop-k.invariant
