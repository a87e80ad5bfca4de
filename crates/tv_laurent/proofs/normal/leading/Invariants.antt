use Rattle.std.proofs.Common.{◌≡◌, ℕ, ◌<◌, ◌≤◌, ◌-◌, length}
use Rattle.tv_ring.specs.Sums.{at}
use Rattle.tv_laurent.proofs.normal.leading.Given as goal

abbrev pub invariant-loop-count : goal.invariant-loop-count
invariant-loop-count g l = let r = g.C.Ring.ring in record {
  within : l.count ≤ length l.row;
  zeros : (i : ℕ) → i < l.count → at r l.row i ≡ r.nought;
}

abbrev pub decreases-loop-count : goal.decreases-loop-count
decreases-loop-count g l = length l.row - l.count
