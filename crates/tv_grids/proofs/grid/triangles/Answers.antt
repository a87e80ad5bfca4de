use Rattle.std.proofs.Common.{◌≡◌, ℕ, List, ◌∙◌, ap, ◌++◌, ◌∷◌, [], append_assoc, arith}
use Rattle.std.specs.List.{flat_map}
use Rattle.tv_spec_plane.specs.declared.records.Triple.{Triple}
use Rattle.tv_spec_reports.specs.Grids.{lower, upper}
use Rattle.tv_grids.proofs.Rows.{before, joined-next, before-row, before-all}
use Rattle.tv_grids.proofs.grid.triangles.Goals as goal

abbrev both : ℕ → ℕ → ℕ → List Triple
both k x y = lower k x y ∷ upper k x y ∷ []

pub loop-x-preserved : goal.loop-x-preserved
loop-x-preserved c =
    let k = c.args.k in let x = c.loop-x.x in let y = c.loop-y.y in
    let done : List Triple = flat_map (λ ts. ts) (before k (both k) x y) in
    c.in_ok-push-2.ensures.items ∙ ap (λ zs. zs ++ c.upper.result ∷ []) (c.in_ok-push.ensures.items ∙ ap (λ zs. zs ++ c.lower.result ∷ []) c.loop-x.invariant)
    ∙ append_assoc done (c.lower.result ∷ []) (c.upper.result ∷ []) ∙ ap (λ t. done ++ t ∷ c.upper.result ∷ []) c.lower.ensures ∙ ap (λ t. done ++ lower k x y ∷ t ∷ []) c.upper.ensures
    ∙ joined-next k (both k) x y

pub loop-y-preserved : goal.loop-y-preserved
loop-y-preserved c =
    let end : c.loop-x.x ≡ c.args.k = omega (arith, c.loop-x-test.false, c.loop-x.auto.x-end) in
    c.loop-x.invariant ∙ ap (λ (x : ℕ). flat_map (λ ts. ts) (before c.args.k (both c.args.k) x c.loop-y.y)) end ∙ ap (flat_map (λ ts. ts)) (before-row c.args.k (both c.args.k) c.loop-y.y)

pub returns : goal.returns
returns c =
    let end : c.loop-y.y ≡ c.args.k = omega (arith, c.loop-y-test.false, c.loop-y.auto.y-end) in
    c.loop-y.invariant ∙ ap (λ (y : ℕ). flat_map (λ ts. ts) (before c.args.k (both c.args.k) 0 y)) end ∙ ap (flat_map (λ ts. ts)) (before-all c.args.k (both c.args.k))
