use Rattle.std.proofs.Common.{◌≡◌, [], ◌∷◌}
use Rattle.std.specs.List.{flat_map}
use Rattle.tv_spec_reports.specs.Grids.{lower, upper}
use Rattle.tv_grids.proofs.Rows.{before}
use Rattle.tv_grids.proofs.grid.triangles.Given as goal

abbrev pub invariant-loop-y : goal.invariant-loop-y
invariant-loop-y l = l.triangles.items ≡ flat_map (λ ts. ts) (before l.k (λ x y. lower l.k x y ∷ upper l.k x y ∷ []) 0 l.y)

abbrev pub invariant-loop-x : goal.invariant-loop-x
invariant-loop-x l = l.triangles.items ≡ flat_map (λ ts. ts) (before l.k (λ x y. lower l.k x y ∷ upper l.k x y ∷ []) l.x l.y)
