use Rattle.std.proofs.Common.{◌≡◌, length}
use Rattle.tv_spec_plane.specs.Web.{compact}
use Rattle.tv_class_assignments.specs.Walk.{to_come, IsWalk}
use Rattle.tv_class_assignments.specs.Steps.{steps}
use Rattle.tv_class_assignments.proofs.lister.next_of.Given as goal

abbrev pub invariant-steps : goal.invariant-steps
invariant-steps l = record {
  valid : IsWalk l.web (length l.sizes) l.frames.items;
  same : to_come l.web (compact l.web) l.frames.items ≡ to_come l.web (compact l.web) l.initial.frames.items;
}

abbrev pub decreases-steps : goal.decreases-steps
decreases-steps l = steps (length l.sizes) (length (compact l.web)) l.frames.items
