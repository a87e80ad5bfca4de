use Rattle.std.proofs.Common.{◌≡◌, ◌+◌, ◌-◌, ◌*◌, ◌≤◌, ◌++◌}
use Rattle.std.specs.List.{flat_map}
use Rattle.tv_partition.specs.Rows.{diagrams_within, down_from}
use Rattle.tv_partition.specs.Within.{behind}
use Rattle.tv_partition.proofs.Written.{after}
use Rattle.tv_partition.proofs.listing.+within.Given as goal

abbrev pub decreases-push_within : goal.decreases-push_within
decreases-push_within l = 2 * l.room

abbrev pub decreases-push_after : goal.decreases-push_after
decreases-push_after l = 2 * l.room + 1

abbrev pub invariant-push_within-loop-row : goal.invariant-push_within-loop-row
invariant-push_within-loop-row l = record {
  kept : l.front.items ≡ l.initial.front.items;
  within_top : l.row ≤ l.top;
  within_left : l.row ≤ l.left;
  lists : l.all.items ++ flat_map (after l.initial.front.items (l.room - 1) l.left) (down_from l.row) ≡ l.initial.all.items ++ behind l.initial.front.items (diagrams_within l.room l.top l.left);
}

abbrev pub decreases-push_within-loop-row : goal.decreases-push_within-loop-row
decreases-push_within-loop-row l = l.row
