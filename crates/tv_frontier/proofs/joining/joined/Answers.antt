use Rattle.std.proofs.Common.{Err, ◌≡◌, refl, ap, arith, w64}
use Rattle.std.specs.Prelude.{pos, ◌+ℤ◌}
use Rattle.std.proofs.lemmas.Int.{ints, to_z-of_z}
use Rattle.std.proofs.lemmas.Option.{slice_get_within}
use Rattle.std.proofs.lemmas.List.{length-map}
use Rattle.std.specs.Map.{values_of}
use Rattle.tv_lattice.proofs.Sums.{small-fits}
use Rattle.tv_spec_boxes.specs.Assignments.{class_difference}
use Rattle.tv_laurent.specs.SeriesCalls.{IsProductWide}
use Rattle.tv_assigned_series.proofs.Keeping.{read-place}
use Rattle.tv_assigned_series.specs.FamilyFaults.{IsCrowded}
use Rattle.tv_frontier.proofs.Joined.{moved-small, moved-joined, corner-crowded, mul-within, mul-joined, mul-reaches, mul-crowded}
use Rattle.tv_frontier.proofs.Bounded.{range-of}
use Rattle.tv_assigned_series.proofs.FamilyTold.{ring-told, series-told}
use Rattle.tv_frontier.proofs.joining.joined.Goals as goal

pub returns-then-low-stage-clause-joined : goal.returns-then-low-stage-clause-joined
returns-then-low-stage-clause-joined g c =
    let is = rw (to_z-of_z w64 c.args.join.now.shift (small-fits c.args.join.now.shift (omega (arith, c.requires.join.small)))) at c.in-Ok.ensures.value in
    let small = moved-small g.met.C.Ring.laws c.known.ensures.graded c.requires.stage c.requires.join c.args.class.now (class_difference c.args.class.now c.args.join.now.class) c.args.series.now c.requires.within refl c.requires.state c.in-Ok.moved is in
    moved-joined g.met.C.Ring.laws c.known.ensures.graded c.requires.stage c.requires.join c.args.class.now (class_difference c.args.class.now c.args.join.now.class) c.args.series.now c.requires.within refl c.requires.state c.in-Ok.moved is (let low = c.low-low.ensures.value in let f = c.requires.stage.small_upto in let h = c.if-low-stage.true in omega (arith, ints))

pub boxes_between-k-requires-clause-low : goal.boxes_between-k-requires-clause-low
boxes_between-k-requires-clause-low g c =
    let is = rw (to_z-of_z w64 c.args.join.now.shift (small-fits c.args.join.now.shift (omega (arith, c.requires.join.small)))) at c.in-Ok.ensures.value in
    let small = moved-small g.met.C.Ring.laws c.known.ensures.graded c.requires.stage c.requires.join c.args.class.now (class_difference c.args.class.now c.args.join.now.class) c.args.series.now c.requires.within refl c.requires.state c.in-Ok.moved is in
    let low = c.low-low.ensures.value in
    omega (arith, ints)

pub returns-in-Err-place_of-clause-wide : goal.returns-in-Err-place_of-clause-wide
returns-in-Err-place_of-clause-wide g c =
    let is = rw (to_z-of_z w64 c.args.join.now.shift (small-fits c.args.join.now.shift (omega (arith, c.requires.join.small)))) at c.in-Ok.ensures.value in
    let small = moved-small g.met.C.Ring.laws c.known.ensures.graded c.requires.stage c.requires.join c.args.class.now (class_difference c.args.class.now c.args.join.now.class) c.args.series.now c.requires.within refl c.requires.state c.in-Ok.moved is in
    let long : c.in-Ok.moved.low +ℤ pos c.boxes_between-k.result ≡ c.args.stage.now.upto = (let low = c.low-low.ensures.value in let e = c.boxes_between-k.ensures.value in let f = c.requires.stage.small_upto in omega (arith, ints)) in
    rw (c.of_ring.ensures.value, c.in_ok-copy-in-Err-place_of.ensures.value)
    (ring-told (IsCrowded g.C.Ring.ring c.args.stage.now.web.now c.args.stage.now.d c.args.stage.now.n) c.in-Err-place_of.fault c.args.join.now.near
    (λ e. let wide = c.in-Err-place_of.ensures.wide (ap Err e) in corner-crowded g.met.C.Ring.laws c.known.ensures.graded c.requires.stage c.requires.join c.args.class.now (class_difference c.args.class.now c.args.join.now.class) c.args.series.now c.requires.within refl c.requires.state c.in-Ok.moved is c.boxes_between-k.result long wide.0 wide.1 wide.2))

pub at-requires : goal.at-requires
at-requires g c =
    let there = c.in-Ok-place_of.ensures.value in
    let place = slice_get_within (values_of c.place_of.new.self) c.in-Ok-place_of.place there.0 there.1 in
    let same = length-map c.place_of.new.self (λ e. e.1) in
    omega arith

pub mul-requires-clause-upto : goal.mul-requires-clause-upto
mul-requires-clause-upto g c =
    let is = rw (to_z-of_z w64 c.args.join.now.shift (small-fits c.args.join.now.shift (omega (arith, c.requires.join.small)))) at c.in-Ok.ensures.value in
    let small = moved-small g.met.C.Ring.laws c.known.ensures.graded c.requires.stage c.requires.join c.args.class.now (class_difference c.args.class.now c.args.join.now.class) c.args.series.now c.requires.within refl c.requires.state c.in-Ok.moved is in
    let long : c.in-Ok.moved.low +ℤ pos c.boxes_between-k.result ≡ c.args.stage.now.upto = (let low = c.low-low.ensures.value in let e = c.boxes_between-k.ensures.value in let f = c.requires.stage.small_upto in omega (arith, ints)) in
    let corner = read-place g.C.Ring.ring c.args.join.now.legs c.boxes_between-k.result _ c.in-Ok-place_of.place c.at.result.now c.in-Ok-place_of.ensures.value c.at.ensures in
    mul-within g.met.C.Ring.laws c.known.ensures.graded c.requires.stage c.requires.join c.args.class.now (class_difference c.args.class.now c.args.join.now.class) c.args.series.now c.requires.within refl c.requires.state c.in-Ok.moved is c.boxes_between-k.result long c.at.result.now corner

pub mul-requires-clause-reaches : goal.mul-requires-clause-reaches
mul-requires-clause-reaches g c =
    let is = rw (to_z-of_z w64 c.args.join.now.shift (small-fits c.args.join.now.shift (omega (arith, c.requires.join.small)))) at c.in-Ok.ensures.value in
    let small = moved-small g.met.C.Ring.laws c.known.ensures.graded c.requires.stage c.requires.join c.args.class.now (class_difference c.args.class.now c.args.join.now.class) c.args.series.now c.requires.within refl c.requires.state c.in-Ok.moved is in
    let long : c.in-Ok.moved.low +ℤ pos c.boxes_between-k.result ≡ c.args.stage.now.upto = (let low = c.low-low.ensures.value in let e = c.boxes_between-k.ensures.value in let f = c.requires.stage.small_upto in omega (arith, ints)) in
    let corner = read-place g.C.Ring.ring c.args.join.now.legs c.boxes_between-k.result _ c.in-Ok-place_of.place c.at.result.now c.in-Ok-place_of.ensures.value c.at.ensures in
    mul-reaches g.met.C.Ring.laws c.known.ensures.graded c.requires.stage c.requires.join c.args.class.now (class_difference c.args.class.now c.args.join.now.class) c.args.series.now c.requires.within refl c.requires.state c.in-Ok.moved is c.boxes_between-k.result long c.at.result.now corner g.met.C.Ring.sizes

pub returns-in-Ok-mul-clause-joined : goal.returns-in-Ok-mul-clause-joined
returns-in-Ok-mul-clause-joined g c =
    let is = rw (to_z-of_z w64 c.args.join.now.shift (small-fits c.args.join.now.shift (omega (arith, c.requires.join.small)))) at c.in-Ok.ensures.value in
    let small = moved-small g.met.C.Ring.laws c.known.ensures.graded c.requires.stage c.requires.join c.args.class.now (class_difference c.args.class.now c.args.join.now.class) c.args.series.now c.requires.within refl c.requires.state c.in-Ok.moved is in
    let long : c.in-Ok.moved.low +ℤ pos c.boxes_between-k.result ≡ c.args.stage.now.upto = (let low = c.low-low.ensures.value in let e = c.boxes_between-k.ensures.value in let f = c.requires.stage.small_upto in omega (arith, ints)) in
    let corner = read-place g.C.Ring.ring c.args.join.now.legs c.boxes_between-k.result _ c.in-Ok-place_of.place c.at.result.now c.in-Ok-place_of.ensures.value c.at.ensures in
    mul-joined g.met.C.Ring.laws c.known.ensures.graded c.requires.stage c.requires.join c.args.class.now (class_difference c.args.class.now c.args.join.now.class) c.args.series.now c.requires.within refl c.requires.state c.in-Ok.moved is c.boxes_between-k.result long c.at.result.now corner c.in-Ok-mul.product c.in-Ok-mul.ensures.value

pub returns-clause-wide : goal.returns-clause-wide
returns-clause-wide g c =
    let is = rw (to_z-of_z w64 c.args.join.now.shift (small-fits c.args.join.now.shift (omega (arith, c.requires.join.small)))) at c.in-Ok.ensures.value in
    let small = moved-small g.met.C.Ring.laws c.known.ensures.graded c.requires.stage c.requires.join c.args.class.now (class_difference c.args.class.now c.args.join.now.class) c.args.series.now c.requires.within refl c.requires.state c.in-Ok.moved is in
    let long : c.in-Ok.moved.low +ℤ pos c.boxes_between-k.result ≡ c.args.stage.now.upto = (let low = c.low-low.ensures.value in let e = c.boxes_between-k.ensures.value in let f = c.requires.stage.small_upto in omega (arith, ints)) in
    let corner = read-place g.C.Ring.ring c.args.join.now.legs c.boxes_between-k.result _ c.in-Ok-place_of.place c.at.result.now c.in-Ok-place_of.ensures.value c.at.ensures in
    rw (c.of_series.ensures.value, c.in_ok-copy-in-Err-mul.ensures.value)
    (series-told (IsProductWide g.C.Ring.ring c.at.result.now c.in-Ok.moved) (IsCrowded g.C.Ring.ring c.args.stage.now.web.now c.args.stage.now.d c.args.stage.now.n) c.in-Err-mul.fault c.args.class.now c.in-Err-mul.ensures.wide
    (mul-crowded g.met.C.Ring.laws c.known.ensures.graded c.requires.stage c.requires.join c.args.class.now (class_difference c.args.class.now c.args.join.now.class) c.args.series.now c.requires.within refl c.requires.state c.in-Ok.moved is c.boxes_between-k.result long c.at.result.now corner g.met.C.Ring.sizes))

pub moved-requires-clause-range : goal.moved-requires-clause-range
moved-requires-clause-range g c = range-of c.args.stage.now.web.now c.args.stage.now.d c.args.stage.now.n c.args.stage.now.floor c.args.stage.now.upto c.args.stage.now.t c.requires.stage
