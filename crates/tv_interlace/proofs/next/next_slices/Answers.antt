use Rattle.std.proofs.Common.{◌≡◌, ◌+◌, ◌++◌, ℤ, w32, subst, pos, ◌+ℤ◌, arith, sym}
use Rattle.std.proofs.lemmas.Int.{to_z-of_z}
use Rattle.tv_cells.specs.Extras.{extent}
use Rattle.tv_spec_slices.specs.Slices.{base_at}
use Rattle.tv_spec_slices.specs.Paths.{full_of, next_of}
use Rattle.tv_interlace.proofs.Up.{up-fits}
use Rattle.tv_interlace.proofs.Fitted.{left_from, slices-start, slices-next, slices-end}
use Rattle.tv_interlace.proofs.next.next_slices.Goals as goal

pub loop-extras-init : goal.loop-extras-init
loop-extras-init c =
    let P : ℤ → Type 0 = λ t. c.new-all.result.items ++ left_from c.args.legs.now t (t +ℤ pos 1) c.args.a.now 0 (c.args.budget + 1) ≡ next_of c.args.legs.now t c.args.a.now c.args.budget in
    subst P (sym (to_z-of_z w32 c.args.t c.ranges.t)) (slices-start c.args.legs.now c.args.t c.args.a.now c.args.budget c.new-all.result.items c.new-all.ensures.items)

pub loop-extras-preserved : goal.loop-extras-preserved
loop-extras-preserved c =
    let fits = c.ranges.t in
    let up = up-fits c.args.t c.requires.diagonal in
    let u = c.args.t +ℤ pos 1 in
    let full : c.full_of-full.result ≡ full_of c.args.legs.now u (extent c.args.legs.now) = simp to_z-of_z at c.full_of-full.ensures.value in
    let base : c.base_at-base.result ≡ base_at c.args.legs.now u c.full_of-full.result = simp to_z-of_z at c.base_at-base.ensures.value in
    let pushed = simp to_z-of_z at c.in_ok-push_extras.ensures in
    let k = c.loop-extras.extras in
    simp to_z-of_z (slices-next c.args.legs.now c.args.t u c.args.a.now c.full_of-full.result c.base_at-base.result k _ c.push_extras.new.all.items c.loop-extras.all.items _ c.loop-extras-test.true full base pushed
    (simp to_z-of_z at c.loop-extras.invariant))

pub returns : goal.returns
returns c =
    let P : ℤ → Type 0 = λ t. c.loop-extras.all.items ++ left_from c.args.legs.now t (t +ℤ pos 1) c.args.a.now c.loop-extras.extras (c.args.budget + 1) ≡ next_of c.args.legs.now t c.args.a.now c.args.budget in
    slices-end c.args.legs.now c.args.t (c.args.t +ℤ pos 1) c.args.a.now c.loop-extras.extras (c.args.budget + 1) c.loop-extras.all.items _ (omega arith) (subst P (to_z-of_z w32 c.args.t c.ranges.t) c.loop-extras.invariant)
