use Rattle.std.proofs.Common.{◌≡◌, ◌<◌, ◌≤◌, length, ℤ, w32, ◌∙◌, arith, subst}
use Rattle.std.specs.Prelude.{filter}
use Rattle.std.proofs.lemmas.Int.{to_z-of_z}
use Rattle.tv_spec_slices.specs.Paths.{fitting}
use Rattle.tv_paths.specs.Among.{is_among}
use Rattle.tv_paths.proofs.Entries.{UpTo, slices-none, slices-more, slices-all}
use Rattle.tv_paths.proofs.counts.counted.Goals as goal

pub loop-i-init : goal.loop-i-init
loop-i-init g c =
    let fits = c.ranges.t in
    simp to_z-of_z (slices-none g.C.Ring.ring c.args.legs.now c.args.k c.args.t c.args.table.now.entries c.requires.table c.in_ok-slices.slices.items c.new-all.result.items c.new-all.ensures.items)

pub loop-i-preserved : goal.loop-i-preserved
loop-i-preserved g c =
    let fits = c.ranges.t in
    let within : c.loop-i.i < length c.in_ok-slices.slices.items = omega (arith, c.loop-i-test.true, c.len-i-end.ensures) in
    simp to_z-of_z (slices-more g.C.Ring.ring c.args.legs.now c.args.k c.args.t c.args.table.now.entries c.requires.table c.in_ok-slices.slices.items c.loop-i.i c.index-slice.result.now c.known.result _ c.push_found.new.all.items c.loop-i.all.items
    within c.index-slice.ensures c.get.ensures.value (simp to_z-of_z at c.known.ensures.value) c.in_ok-push_found.ensures.value (simp to_z-of_z at c.loop-i.invariant))

pub returns-clause-value : goal.returns-clause-value
returns-clause-value g c =
    let legs = c.args.legs.now in let k = c.args.k in
    let whole : length c.in_ok-slices.slices.items ≤ c.loop-i.i = omega (arith, c.loop-i-test.false, c.len-i-end.ensures) in
    let tz = to_z-of_z w32 c.args.t c.ranges.t in
    let P : ℤ → Type 0 = λ t. c.in_ok-slices.slices.items ≡ filter (is_among c.as_slice.result.now) (fitting legs t k) in
    let Q : ℤ → Type 0 = λ t. c.loop-i.all.items ≡ UpTo g.C.Ring.ring legs k t c.in_ok-slices.slices.items c.loop-i.i in
    slices-all g.C.Ring.ring legs k c.args.t c.args.table.now.entries c.requires.table c.in_ok-slices.slices.items c.as_slice.result.now c.loop-i.i c.loop-i.all.items whole (c.as_slice.ensures.value ∙ c.in_ok-keys.ensures) (subst P tz c.in_ok-slices.ensures) (subst Q tz c.loop-i.invariant)
