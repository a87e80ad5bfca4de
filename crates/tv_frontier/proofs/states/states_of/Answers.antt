use Rattle.std.proofs.Common.{◌<◌, length, arith}
use Rattle.tv_frontier.proofs.Bounded.{reach-at}
use Rattle.tv_frontier.proofs.Next.{part-at, parts-long}
use Rattle.tv_frontier.proofs.states.states_of.Goals as goal

pub index-requires-in-loop-k : goal.index-requires-in-loop-k
index-requires-in-loop-k g c = let e = c.len-k-end.ensures in let h = c.loop-k-test.true in let l = parts-long g.C.Ring.IsValue g.C.Ring.ring c.args.stage.now.web.now c.args.stage.now.d c.args.stage.now.n c.args.stage.now.t c.args.layer.now.keys.items c.args.layer.now.parts.items c.requires.layer.parts in omega arith

pub state_of-requires-clause-part : goal.state_of-requires-clause-part
state_of-requires-clause-part g c =
    let bound : c.loop-k.k < length c.args.layer.now.keys.items = (let e = c.len-k-end.ensures in let h = c.loop-k-test.true in omega arith) in
    part-at g.C.Ring.IsValue g.C.Ring.ring c.args.stage.now.web.now c.args.stage.now.d c.args.stage.now.n c.args.stage.now.t c.args.layer.now.keys.items c.args.layer.now.parts.items c.loop-k.k c.index.result.now c.index-in-loop-k.result.now c.requires.layer.parts bound c.index.ensures c.index-in-loop-k.ensures

pub state_of-requires-clause-reach : goal.state_of-requires-clause-reach
state_of-requires-clause-reach g c =
    let all = parts-long g.C.Ring.IsValue g.C.Ring.ring c.args.stage.now.web.now c.args.stage.now.d c.args.stage.now.n c.args.stage.now.t c.args.layer.now.keys.items c.args.layer.now.parts.items c.requires.layer.parts in
    let bound : c.loop-k.k < length c.args.layer.now.parts.items = (let e = c.len-k-end.ensures in let h = c.loop-k-test.true in omega arith) in
    reach-at c.args.stage.now.n c.args.layer.now.parts.items c.loop-k.k c.index-in-loop-k.result.now c.requires.reach bound c.index-in-loop-k.ensures
