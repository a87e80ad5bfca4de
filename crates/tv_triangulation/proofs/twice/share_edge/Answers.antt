use Rattle.std.proofs.Common.{◌≡◌, true, inl, inr, refl}
use Rattle.tv_triangulation.proofs.Sharing.{shared-last}
use Rattle.tv_triangulation.proofs.twice.share_edge.Goals as goal

pub returns-then-has_side : goal.returns-then-has_side
returns-then-has_side c =
    let t = c.args.t in
    (λ h. ((t.a, t.b), record { first = inl refl; second = c.has_side.ensures.0 c.if-has_side.true }), λ some. refl)

pub returns-then-has_side-2 : goal.returns-then-has_side-2
returns-then-has_side-2 c =
    let t = c.args.t in
    (λ h. ((t.b, t.c), record { first = inr (inl refl); second = c.has_side-2.ensures.0 c.if-has_side-2.true }), λ some. refl)

pub returns : goal.returns
returns c =
    let t = c.args.t in (
      λ h. ((t.c, t.a), record { first = inr (inr (inl refl)); second = c.has_side-3.ensures.0 h }),
      shared-last t c.args.u c.has_side-3.result
          (λ ab. let is : c.has_side.result ≡ true = c.has_side.ensures.1 ab in cc)
          (λ bc. let is : c.has_side-2.result ≡ true = c.has_side-2.ensures.1 bc in cc)
          c.has_side-3.ensures.1,
    )
