use Rattle.tv_assignment.proofs.OpenLegs.{legs-next}
use Rattle.tv_assignment.proofs.legs.all_legs.Goals as goal

pub loop-corner-preserved : goal.loop-corner-preserved
loop-corner-preserved c = legs-next c.args.web.now c.args.assignment.now c.loop-corner.corner-index _ c.corners-corner-items.result.now c.in_ok-legs_of.field-0 c.loop-corner.all.items _ c.loop-corner-test.true c.corners-corner-items.ensures c.in_ok-legs_of.ensures c.in_ok-push.ensures.items c.loop-corner.invariant
