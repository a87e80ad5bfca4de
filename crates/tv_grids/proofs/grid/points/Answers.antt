use Rattle.std.proofs.Common.{◌≡◌, ℕ, suc, ◌∙◌, ap, ◌++◌, ◌∷◌, [], arith}
use Rattle.tv_spec_reports.specs.Grids.{grid_point}
use Rattle.tv_grids.proofs.Rows.{before, before-next, before-row, before-all}
use Rattle.tv_grids.proofs.grid.points.Goals as goal

pub loop-x-preserved : goal.loop-x-preserved
loop-x-preserved c =
    c.in_ok-push.ensures.items
    ∙ ap (λ zs. zs ++ c.point.result ∷ []) c.loop-x.invariant ∙ ap (λ z. before (suc c.args.k) grid_point c.loop-x.x c.loop-y.y ++ z ∷ []) c.point.ensures ∙ before-next (suc c.args.k) grid_point c.loop-x.x c.loop-y.y

pub loop-y-preserved : goal.loop-y-preserved
loop-y-preserved c =
    let end : c.loop-x.x ≡ suc c.args.k = omega (arith, c.loop-x-test.false, c.loop-x.auto.x-end) in
    c.loop-x.invariant ∙ ap (λ (x : ℕ). before (suc c.args.k) grid_point x c.loop-y.y) end ∙ before-row (suc c.args.k) grid_point c.loop-y.y

pub returns : goal.returns
returns c =
    let end : c.loop-y.y ≡ suc c.args.k = omega (arith, c.loop-y-test.false, c.loop-y.auto.y-end) in
    c.loop-y.invariant ∙ ap (λ (y : ℕ). before (suc c.args.k) grid_point 0 y) end ∙ before-all (suc c.args.k) grid_point
