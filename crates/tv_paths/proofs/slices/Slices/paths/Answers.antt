use Rattle.std.proofs.Common.{◌≡◌, ℕ, ◌+◌, ◌*◌, ◌<◌, ◌≤◌, w64, ◌∙◌, ap, arith}
use Rattle.std.proofs.lemmas.Int.{to_z-of_z}
use Rattle.tv_cells.specs.Extras.{extent}
use Rattle.tv_paths.specs.Counts.{path_counts}
use Rattle.tv_paths.specs.Built.{diagonal_counts, nearest}
use Rattle.tv_paths.proofs.Diagonals.{row-read, row-long}
use Rattle.tv_paths.proofs.Outside.{paths-nearest}
use Rattle.tv_paths.proofs.slices.Slices.paths.Goals as goal

pub place_of-place-requires : goal.place_of-place-requires
place_of-place-requires g c = small c.self.inside.k (extent c.self.inside.legs) c.extent.result c.self.inside.far c.self.invariant.few c.self.invariant.end c.extent.ensures.value c.extent.ensures.bound
  where
    small : (k e x far : ℕ) → k < 536870912 → far ≡ k + e → x ≡ e → x ≤ 24 → far < 536870962
    small k e x far l end is b = omega arith

pub index-requires : goal.index-requires
index-requires g c =
    let long = row-long (λ v. v.items) (diagonal_counts g.C.Ring.ring c.self.inside.legs c.self.inside.k c.self.inside.far) (2 * c.self.inside.far + 1) c.self.inside.diagonals.items c.self.invariant.diagonals in
    omega (arith, long, c.place_of-place.ensures.within)

pub returns : goal.returns
returns g c =
    let r = g.C.Ring.ring in let legs = c.self.inside.legs in let k = c.self.inside.k in let far = c.self.inside.far in
    let at_nearest = ap (λ f. path_counts r legs k (nearest f c.args.t)) c.self.invariant.end ∙ paths-nearest legs k c.known.ensures.diagrams r c.args.t in
    c.as_slice.ensures.value
    ∙ (row-read (λ v. v.items) (diagonal_counts r legs k far) (2 * far + 1) c.place_of-place.result c.self.inside.diagonals.items c.index.result.now c.self.invariant.diagonals (omega (arith, c.place_of-place.ensures.within)) c.index.ensures
    ∙ ((ap (path_counts r legs k) (c.place_of-place.ensures.value ∙ ap (nearest far) (to_z-of_z w64 c.args.t c.ranges.t)) ∙ at_nearest) ∙ ap (λ b. path_counts r b.legs b.k c.args.t) c.self.view_is))
