use Rattle.std.proofs.Common.{◌≡◌, ◌≤◌, drop, length}
use Rattle.tv_images.specs.Least.{rows_before}
use Rattle.tv_images.proofs.order.rows_before.Given as goal

abbrev pub invariant-loop-i : goal.invariant-loop-i
invariant-loop-i l = (rows_before (drop l.i l.first) (drop l.i l.second) ≡ rows_before l.first l.second) × (l.i ≤ length l.second)
