use Rattle.std.proofs.Common.{◌≡◌, ◌+◌, ◌-◌, ◌*◌, ◌≤◌, ◌++◌, pos, ◌+ℤ◌, length}
use Rattle.std.specs.List.{flat_map}
use Rattle.tv_spec_slices.specs.Slices.{base_at}
use Rattle.tv_interlace.specs.Columns.{behind, longer, one_more, firsts}
use Rattle.tv_interlace.proofs.next.+columns.Given as goal

abbrev pub decreases-push_columns : goal.decreases-push_columns
decreases-push_columns l = 3 * l.left + 1

abbrev pub decreases-push_longer : goal.decreases-push_longer
decreases-push_longer l = 3 * l.left + 3

abbrev pub decreases-push_after : goal.decreases-push_after
decreases-push_after l = 3 * l.left + 2

abbrev pub invariant-push_longer-loop-height : goal.invariant-push_longer-loop-height
invariant-push_longer-loop-height l = record {
  kept : l.front.items ≡ l.initial.front.items;
  within_top : l.height ≤ l.top;
  within_room : l.height ≤ l.base + (l.extras - l.after.least);
  slices : l.all.items ++ flat_map (one_more l.legs l.t (l.t +ℤ pos 1) l.a l.full l.initial.front.items (l.full + length l.initial.front.items) l.left l.top l.extras) (firsts ((l.height + 1) - base_at l.legs (l.t +ℤ pos 1) (l.full + length l.initial.front.items)))
      ≡ l.initial.all.items ++ behind l.t l.a l.full l.initial.front.items (longer l.legs (l.t +ℤ pos 1) (l.full + length l.initial.front.items) l.left l.top l.extras);
}

abbrev pub decreases-push_longer-loop-height : goal.decreases-push_longer-loop-height
decreases-push_longer-loop-height l = l.height
