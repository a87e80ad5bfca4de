use Rattle.std.proofs.Common.{◌≡◌, ◌+◌, ◌*◌, ◌≤◌, ◌++◌, length}
use Rattle.std.specs.List.{flat_map}
use Rattle.tv_interlace.specs.Columns.{longer, firsts}
use Rattle.tv_paths.specs.Among.{behind, one_more}
use Rattle.tv_paths.proofs.order.+columns.Given as goal

abbrev pub decreases-push_columns : goal.decreases-push_columns
decreases-push_columns l = 3 * l.left + 1

abbrev pub decreases-push_longer : goal.decreases-push_longer
decreases-push_longer l = 3 * l.left + 3

abbrev pub decreases-push_height : goal.decreases-push_height
decreases-push_height l = 3 * l.left + 2

abbrev pub invariant-push_longer-loop-more : goal.invariant-push_longer-loop-more
invariant-push_longer-loop-more l = record {
  kept : l.front.items ≡ l.initial.front.items;
  within : l.more ≤ l.extras + 1;
  slices : l.all.items ++ flat_map (one_more l.keys l.legs l.t l.full l.initial.front.items (l.full + length l.initial.front.items) l.left l.top l.extras) (firsts l.more)
      ≡ l.initial.all.items ++ behind l.keys l.full l.initial.front.items (longer l.legs l.t (l.full + length l.initial.front.items) l.left l.top l.extras);
}

abbrev pub decreases-push_longer-loop-more : goal.decreases-push_longer-loop-more
decreases-push_longer-loop-more l = l.more
