use Rattle.std.proofs.Common.{◌≡◌, ℕ, ◌<◌}
use Rattle.std.specs.Prelude.{pos}
use Rattle.tv_spec_plane.specs.Plane.{at, turn}
use Rattle.tv_hull.proofs.flat.is_flat.Given as goal

abbrev pub invariant-loop-k : goal.invariant-loop-k
invariant-loop-k l = (j : ℕ) → j < l.k → turn (at l.points 0) (at l.points 1) (at l.points j) ≡ pos 0
