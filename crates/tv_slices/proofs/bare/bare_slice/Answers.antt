use Rattle.std.proofs.Common.{◌≡◌, ◌∙◌, ap}
use Rattle.std.proofs.lemmas.Int.{to_z-of_z}
use Rattle.tv_cells.specs.Extras.{extent}
use Rattle.tv_spec_slices.specs.Paths.{shape, full_of}
use Rattle.tv_slices.specs.Bare.{bare, bare_from}
use Rattle.tv_slices.proofs.bare.bare_slice.Goals as goal

pub returns : goal.returns
unfolding bare
returns c =
    let fits_t = c.ranges.t in
    let full : c.full_of-full.result ≡ full_of c.args.legs.now c.args.t (extent c.args.legs.now) = simp to_z-of_z at c.full_of-full.ensures.value in
    let heights : c.in_ok-heights.heights.items ≡ bare_from c.args.legs.now c.args.t c.full_of-full.result (extent c.args.legs.now) = simp to_z-of_z at c.in_ok-heights.ensures.value in
    c.new.ensures ∙ (ap (shape c.full_of-full.result) heights ∙ ap (λ f. shape f (bare_from c.args.legs.now c.args.t f (extent c.args.legs.now))) full)
