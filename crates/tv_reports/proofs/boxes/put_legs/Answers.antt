use Rattle.tv_reports.proofs.Configs.{legs_one, legs_all}
use Rattle.tv_reports.proofs.boxes.put_legs.Goals as goal

pub loop-k-preserved : goal.loop-k-preserved
loop-k-preserved c = legs_one c.args.edges.now c.args.legs.now c.loop-k.k _ c.index-legs-k.result _ _ _ (rw c.min-k-end.ensures at c.loop-k-test.true) c.index-legs-k.is c.loop-k.invariant c.in_ok-put_leg.ensures

pub returns : goal.returns
returns c = legs_all c.args.edges.now c.args.legs.now c.loop-k.k _ _ (rw c.min-k-end.ensures at c.loop-k-test.false) c.loop-k.invariant
