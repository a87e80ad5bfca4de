use Rattle.std.proofs.Common.{◌≡◌, ◌≤◌, length}
use Rattle.std.specs.Prelude.{Contains, pos, ◌≤ℤ◌, unsigned_abs}
use Rattle.std.specs.Int.{int_min}
use Rattle.std.specs.List.{AllByRecursion}
use Rattle.tv_spec_boxes.specs.Assignments.{assignments, no_legs}
use Rattle.tv_spec_boxes.specs.Numbers.{least, low_of, lowest}
use Rattle.tv_frontier.proofs.lowest.lowest_of.Given as goal

abbrev pub invariant-loop-coming : goal.invariant-loop-coming
invariant-loop-coming l = record {
  least : int_min l.least (least (low_of l.web (no_legs l.web)) l.coming) ≡ lowest l.web (no_legs l.web) l.d;
  listed : AllByRecursion (Contains (assignments l.web l.d)) l.coming;
  low : l.least ≤ℤ pos 0;
  bound : unsigned_abs l.least ≤ 10000000;
}

abbrev pub decreases-loop-coming : goal.decreases-loop-coming
decreases-loop-coming l = length l.coming
