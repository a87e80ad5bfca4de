use Rattle.std.proofs.Common.{◌≡◌, ◌+◌, ◌++◌, length, ℤ, w32, subst, [], ap, arith, sym, ◌∙◌}
use Rattle.std.specs.Prelude.{filter}
use Rattle.std.proofs.lemmas.Int.{to_z-of_z}
use Rattle.tv_cells.specs.Extras.{extent}
use Rattle.tv_spec_slices.specs.Slices.{base_at}
use Rattle.tv_spec_slices.specs.Paths.{columns, full_of, fitting}
use Rattle.tv_paths.specs.Among.{is_among, behind}
use Rattle.tv_paths.proofs.Ordered.{left_from, slices-start, slices-next, slices-end}
use Rattle.tv_paths.proofs.order.ordered.Goals as goal

pub loop-extras-init : goal.loop-extras-init
loop-extras-init c =
    let P : ℤ → Type 0 = λ t. c.new-all.result.items ++ left_from c.args.keys.now c.args.legs.now t 0 (c.args.budget + 1) ≡ filter (is_among c.args.keys.now) (fitting c.args.legs.now t c.args.budget) in
    subst P (sym (to_z-of_z w32 c.args.t c.ranges.t)) (slices-start c.args.keys.now c.args.legs.now c.args.t c.args.budget c.new-all.result.items c.new-all.ensures.items)

pub loop-extras-preserved : goal.loop-extras-preserved
loop-extras-preserved c =
    let fits = c.ranges.t in
    let legs = c.args.legs.now in let t = c.args.t in
    let full : c.full_of-full.result ≡ full_of legs t (extent legs) = simp to_z-of_z at c.full_of-full.ensures.value in
    let base : c.base_at-base.result ≡ base_at legs t c.full_of-full.result = simp to_z-of_z at c.base_at-base.ensures.value in
    let pushed = simp to_z-of_z at c.in_ok-push_columns.ensures.all in
    let some = c.in_ok-some.some.items in
    let narrow = simp to_z-of_z at c.in_ok-some.ensures in
    let k = c.loop-extras.extras in
    let place : c.full_of-full.result + 0 ≡ c.full_of-full.result = omega arith in
    simp to_z-of_z (slices-next c.args.keys.now some legs t c.full_of-full.result c.base_at-base.result k _ c.push_columns.new.all.items c.loop-extras.all.items _ c.known.ensures.diagrams c.loop-extras-test.true narrow full base
    (pushed
    ∙ (ap (λ ks. c.loop-extras.all.items ++ behind ks c.full_of-full.result c.new-front.result.items (columns legs t (c.full_of-full.result + length c.new-front.result.items) (c.extent.result + k) (c.base_at-base.result + k) k)) c.as_slice.ensures.value
    ∙ (ap (λ f. c.loop-extras.all.items ++ behind some c.full_of-full.result f (columns legs t (c.full_of-full.result + length f) (c.extent.result + k) (c.base_at-base.result + k) k)) c.new-front.ensures.items
    ∙ (ap (λ d. c.loop-extras.all.items ++ behind some c.full_of-full.result [] (columns legs t d (c.extent.result + k) (c.base_at-base.result + k) k)) place
    ∙ ap (λ e. c.loop-extras.all.items ++ behind some c.full_of-full.result [] (columns legs t c.full_of-full.result (e + k) (c.base_at-base.result + k) k)) c.extent.ensures.value))))
    (simp to_z-of_z at c.loop-extras.invariant))

pub returns : goal.returns
returns c =
    let P : ℤ → Type 0 = λ t. c.loop-extras.all.items ++ left_from c.args.keys.now c.args.legs.now t c.loop-extras.extras (c.args.budget + 1) ≡ filter (is_among c.args.keys.now) (fitting c.args.legs.now t c.args.budget) in
    slices-end c.args.keys.now c.args.legs.now c.args.t c.loop-extras.extras (c.args.budget + 1) c.loop-extras.all.items _ (omega arith) (subst P (to_z-of_z w32 c.args.t c.ranges.t) c.loop-extras.invariant)
