use Rattle.std.proofs.Common.{◌≡◌, map, take}
use Rattle.tv_spec_plane.specs.Web.{corners}
use Rattle.tv_spec_boxes.specs.Assignments.{legs_of, no_legs}
use Rattle.tv_assignment.proofs.legs.all_legs.Given as goal

abbrev pub invariant-loop-corner : goal.invariant-loop-corner
invariant-loop-corner l = l.all.items ≡ map (legs_of l.assignment (no_legs l.web)) (take l.corner-index (corners l.web))
