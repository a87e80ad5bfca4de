use Rattle.std.proofs.Common.{◌≡◌, ◌∷◌, length}
use Rattle.tv_cells.specs.Cells.{rises}
use Rattle.tv_cells.proofs.order.rises_after.Given as goal

abbrev pub invariant-loop-cell : goal.invariant-loop-cell
invariant-loop-cell l = rises (l.fn.first ∷ l.fn.cells) ≡ rises (l.last ∷ l.left)

abbrev pub decreases-loop-cell : goal.decreases-loop-cell
decreases-loop-cell l = length l.left
