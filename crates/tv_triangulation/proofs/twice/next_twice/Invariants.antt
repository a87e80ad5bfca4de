use Rattle.std.proofs.Common.{ℕ, ◌<◌}
use Rattle.tv_triangulation.specs.Checks.{IsTwice}
use Rattle.tv_triangulation.proofs.twice.next_twice.Given as goal

abbrev pub invariant-loop-u : goal.invariant-loop-u
invariant-loop-u l = (k : ℕ) → k < l.u → IsTwice l.triangles l.t k → ⊥
