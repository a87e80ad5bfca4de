use Rattle.tv_boxes.specs.Stages.{IsSame, steps_left}
use Rattle.tv_boxes.proofs.stages.Stages.next.Given as goal

abbrev pub invariant-steps : goal.invariant-steps
invariant-steps l = IsSame l.initial.self l.self

abbrev pub decreases-steps : goal.decreases-steps
decreases-steps l = steps_left l.self
