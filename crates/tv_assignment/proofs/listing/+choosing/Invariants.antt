use Rattle.std.proofs.Common.{◌≡◌, ◌+◌, ◌-◌, ◌*◌, ◌++◌, length, drop}
use Rattle.std.specs.List.{flat_map, range_with_len}
use Rattle.tv_partition.specs.Rows.{diagrams}
use Rattle.tv_spec_boxes.specs.Assignments.{choices}
use Rattle.tv_assignment.specs.Listing.{behind, sized}
use Rattle.tv_assignment.proofs.Written.{each_behind}
use Rattle.tv_assignment.proofs.listing.+choosing.Given as goal

abbrev pub decreases-push_choices : goal.decreases-push_choices
decreases-push_choices l = 3 * length l.degrees.now

abbrev pub decreases-push_sized : goal.decreases-push_sized
decreases-push_sized l = 3 * length l.later.now + 2

abbrev pub decreases-push_behind : goal.decreases-push_behind
decreases-push_behind l = 3 * length l.later.now + 1

abbrev pub invariant-push_choices-loop-size : goal.invariant-push_choices-loop-size
invariant-push_choices-loop-size l = record {
  kept : l.front.items ≡ l.initial.front.items;
  lists : l.all.items ++ flat_map (sized l.initial.front.items l.later l.left l.degree) (range_with_len l.size ((l.left + 1) - l.size)) ≡ l.initial.all.items ++ behind l.initial.front.items (choices l.degrees l.left);
}

abbrev pub invariant-push_sized-loop-k : goal.invariant-push_sized-loop-k
invariant-push_sized-loop-k l = record {
  kept : l.front.items ≡ l.initial.front.items;
  lists : l.all.items ++ each_behind l.initial.front.items l.later l.rest (drop l.k (diagrams l.size)) ≡ l.initial.all.items ++ sized l.initial.front.items l.later l.left l.degree l.size;
}
