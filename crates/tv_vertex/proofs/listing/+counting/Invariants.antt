use Rattle.std.proofs.Common.{◌≡◌, ◌+◌, ◌*◌, ◌++◌, true, length}
use Rattle.tv_cells.specs.Cells.{rises}
use Rattle.tv_vertex.specs.Rest.{rest}
use Rattle.tv_vertex.proofs.Steps.{IsSoFar}
use Rattle.tv_vertex.proofs.listing.+counting.Given as goal

abbrev pub decreases-times_rest : goal.decreases-times_rest
decreases-times_rest g l = 2 * l.left

abbrev pub decreases-times_taking : goal.decreases-times_taking
decreases-times_taking g l = 2 * l.left + 1

abbrev pub invariant-times_rest-loop-cell : goal.invariant-times_rest-loop-cell
invariant-times_rest-loop-cell g l = record {
  kept : l.chosen.items ≡ l.initial.chosen.items;
  rising : rises (l.chosen.items ++ l.remaining) ≡ true;
  sum : IsSoFar g.C.Ring.ring l.total (rest l.legs l.chosen.items l.remaining l.left) (rest l.legs l.initial.chosen.items l.cells l.left);
}

abbrev pub decreases-times_rest-loop-cell : goal.decreases-times_rest-loop-cell
decreases-times_rest-loop-cell g l = length l.remaining
