use Rattle.std.proofs.Common.{◌≡◌, ℕ, ◌≤◌, length}
use Rattle.tv_ring.specs.Sums.{at}
use Rattle.tv_laurent.proofs.normal.ending.Given as goal

abbrev pub invariant-loop-end : goal.invariant-loop-end
invariant-loop-end g l = let r = g.C.Ring.ring in record {
  within : l.end ≤ length l.row;
  zeros : (i : ℕ) → l.end ≤ i → at r l.row i ≡ r.nought;
}

abbrev pub decreases-loop-end : goal.decreases-loop-end
decreases-loop-end g l = l.end
