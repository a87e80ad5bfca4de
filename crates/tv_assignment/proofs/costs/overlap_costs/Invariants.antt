use Rattle.std.proofs.Common.{◌≡◌, ◌≤◌, ◌*◌, drop}
use Rattle.std.specs.Prelude.{pos, ◌+ℤ◌, unsigned_abs}
use Rattle.tv_spec_boxes.specs.Assignments.{overlaps_of}
use Rattle.tv_assignment.proofs.costs.overlap_costs.Given as goal

abbrev pub invariant-loop-corner : goal.invariant-loop-corner
invariant-loop-corner l = record {
  sum : l.total +ℤ pos (overlaps_of (drop l.corner-index l.legs)) ≡ pos (overlaps_of l.legs);
  bound : unsigned_abs l.total ≤ l.corner-index * 55000;
}
