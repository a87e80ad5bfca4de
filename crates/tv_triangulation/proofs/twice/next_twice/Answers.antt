use Rattle.std.proofs.Common.{◌≡◌, true, subst, inl, inr, arith}
use Rattle.tv_hull.proofs.Best.{below_or_last}
use Rattle.tv_triangulation.specs.Checks.{IsTwice}
use Rattle.tv_triangulation.proofs.Sharing.{least_of}
use Rattle.tv_triangulation.proofs.twice.next_twice.Goals as goal

pub returns-then-share_edge : goal.returns-then-share_edge
returns-then-share_edge c =
    let found = c.share_edge.ensures.0 c.if-share_edge.true in
    record {
      holds = record { ordered = omega arith; listed = c.loop-u-test.true; edge = found.0; shared = found.1 };
      least = least_of (IsTwice c.args.triangles.now c.args.t) c.loop-u.u c.loop-u.invariant;
    }

pub loop-u-preserved : goal.loop-u-preserved
loop-u-preserved c = λ k h twice. elim (below_or_last k c.loop-u.u h) [
  | inl less ↦ c.loop-u.invariant k less twice
  | inr same ↦ let here = subst (IsTwice c.args.triangles.now c.args.t) same twice in let is : c.share_edge.result ≡ true = c.share_edge.ensures.1 (here.edge, here.shared) in cc
]
