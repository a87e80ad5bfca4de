use Rattle.std.proofs.Common.{◌≡◌, ℕ, ◌<◌, pos, ◌+ℤ◌, ◌*ℤ◌}
use Rattle.tv_ring.specs.Whole.{wholes}
use Rattle.tv_ring.specs.Sums.{at}
use Rattle.tv_class_parts.proofs.lookup.is_after.Given as goal

abbrev pub invariant-loop-k : goal.invariant-loop-k
invariant-loop-k l = (i : ℕ) → i < l.k → at wholes l.left i +ℤ (pos l.times *ℤ at wholes l.part i) ≡ at wholes l.class i
