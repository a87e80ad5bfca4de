use Rattle.std.proofs.Common.{◌≡◌, pos, sym, ap, subst, ◌∙◌, length, arith, w64, to_z, of_z}
use Rattle.std.proofs.lemmas.Int.{ints}
use Rattle.tv_spec_plane.specs.Web.{compact}
use Rattle.tv_laws_frontier.specs.Steps.{nothing}
use Rattle.tv_laws_frontier.proofs.First.{nothing-long}
use Rattle.tv_spec_boxes.specs.Assignments.{class_of}
use Rattle.tv_spec_series.specs.Families.{Family, added, without_rows, IsAddend}
use Rattle.tv_frontier.proofs.Begun.{first-addend, first-part}
use Rattle.tv_frontier.proofs.Spread.{nothing-few}
use Rattle.tv_frontier.proofs.first.first_part.Goals as goal

pub class_of-requires-clause-one_each : goal.class_of-requires-clause-one_each
class_of-requires-clause-one_each g c = ap length (c.new-empty.ensures ∙ c.in_ok-nothing.ensures) ∙ nothing-long (compact c.args.stage.now.web.now)

pub class_of-requires-clause-few : goal.class_of-requires-clause-few
class_of-requires-clause-few g c = nothing-few (compact c.args.stage.now.web.now) c.new-empty.result (c.new-empty.ensures ∙ c.in_ok-nothing.ensures)

pub add_into-requires-clause-place : goal.add_into-requires-clause-place
add_into-requires-clause-place g c =
    let zero : c.in_ok-class.class ≡ class_of c.args.stage.now.web.now (nothing (compact c.args.stage.now.web.now)) = c.in_ok-class.ensures ∙ ap (class_of c.args.stage.now.web.now) (c.new-empty.ensures ∙ c.in_ok-nothing.ensures) in
    let read : to_z w64 (of_z w64 c.args.stage.now.upto) ≡ c.args.stage.now.upto = (let f = c.requires.span.small_upto in omega (arith, ints)) in
    let addend : IsAddend g.C.Ring.IsValue g.C.Ring.ring c.in_ok-family.family c.in_ok-class.class c.in-Ok.series = subst (λ (z : Family _). IsAddend g.C.Ring.IsValue g.C.Ring.ring z c.in_ok-class.class c.in-Ok.series) (sym (c.in_ok-family.ensures ∙ ap (without_rows c.args.stage.now.web.now.heights (pos c.args.stage.now.d)) read)) (first-addend g.met.C.Ring.laws c.args.stage.now.web.now c.args.stage.now.d c.args.stage.now.n c.args.stage.now.floor c.args.stage.now.upto c.known.ensures.graded c.known.ensures.heighted c.requires.span c.in_ok-class.class zero c.in-Ok.series c.in-Ok.ensures.value c.known-2.ensures.value) in
    addend.place

pub add_into-requires-clause-known : goal.add_into-requires-clause-known
add_into-requires-clause-known g c =
    let zero : c.in_ok-class.class ≡ class_of c.args.stage.now.web.now (nothing (compact c.args.stage.now.web.now)) = c.in_ok-class.ensures ∙ ap (class_of c.args.stage.now.web.now) (c.new-empty.ensures ∙ c.in_ok-nothing.ensures) in
    let read : to_z w64 (of_z w64 c.args.stage.now.upto) ≡ c.args.stage.now.upto = (let f = c.requires.span.small_upto in omega (arith, ints)) in
    let addend : IsAddend g.C.Ring.IsValue g.C.Ring.ring c.in_ok-family.family c.in_ok-class.class c.in-Ok.series = subst (λ (z : Family _). IsAddend g.C.Ring.IsValue g.C.Ring.ring z c.in_ok-class.class c.in-Ok.series) (sym (c.in_ok-family.ensures ∙ ap (without_rows c.args.stage.now.web.now.heights (pos c.args.stage.now.d)) read)) (first-addend g.met.C.Ring.laws c.args.stage.now.web.now c.args.stage.now.d c.args.stage.now.n c.args.stage.now.floor c.args.stage.now.upto c.known.ensures.graded c.known.ensures.heighted c.requires.span c.in_ok-class.class zero c.in-Ok.series c.in-Ok.ensures.value c.known-2.ensures.value) in
    addend.known

pub returns-in-Ok-add_into-clause-part : goal.returns-in-Ok-add_into-clause-part
returns-in-Ok-add_into-clause-part g c =
    let zero : c.in_ok-class.class ≡ class_of c.args.stage.now.web.now (nothing (compact c.args.stage.now.web.now)) = c.in_ok-class.ensures ∙ ap (class_of c.args.stage.now.web.now) (c.new-empty.ensures ∙ c.in_ok-nothing.ensures) in
    let read : to_z w64 (of_z w64 c.args.stage.now.upto) ≡ c.args.stage.now.upto = (let f = c.requires.span.small_upto in omega (arith, ints)) in
    first-part g.met.C.Ring.laws c.args.stage.now.web.now c.args.stage.now.d c.args.stage.now.n c.args.stage.now.floor c.args.stage.now.upto c.known.ensures.graded c.known.ensures.heighted c.requires.span c.in_ok-class.class zero c.in-Ok.series c.in-Ok.ensures.value c.add_into.new.self c.known-2.ensures.value (c.in-Ok-add_into.ensures.ok ∙ ap (added g.C.Ring.ring c.in_ok-class.class c.in-Ok.series) (c.in_ok-family.ensures ∙ ap (without_rows c.args.stage.now.web.now.heights (pos c.args.stage.now.d)) read))

pub returns-in-Ok-add_into-clause-upto : goal.returns-in-Ok-add_into-clause-upto
returns-in-Ok-add_into-clause-upto g c =
    let read : to_z w64 (of_z w64 c.args.stage.now.upto) ≡ c.args.stage.now.upto = (let f = c.requires.span.small_upto in omega (arith, ints)) in
    ap (λ (z : Family _). z.upto) c.in-Ok-add_into.ensures.ok ∙ (ap (λ (z : Family _). z.upto) c.in_ok-family.ensures ∙ read)
