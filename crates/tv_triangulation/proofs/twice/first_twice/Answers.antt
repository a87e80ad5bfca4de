use Rattle.std.proofs.Common.{ℕ, subst, inl, inr}
use Rattle.tv_hull.proofs.Best.{below_or_last}
use Rattle.tv_triangulation.specs.Checks.{IsTwice}
use Rattle.tv_triangulation.proofs.twice.first_twice.Goals as goal

pub loop-t-preserved : goal.loop-t-preserved
loop-t-preserved c = λ k l h twice. elim (below_or_last k c.loop-t.t h) [
  | inl less ↦ c.loop-t.invariant k l less twice
  | inr same ↦ c.in_default.ensures l (subst (λ (m : ℕ). IsTwice c.args.triangles.now m l) same twice)
]
