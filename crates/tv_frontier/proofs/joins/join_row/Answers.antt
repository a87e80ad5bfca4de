use Rattle.std.proofs.Common.{◌≡◌, refl, sym, ap, subst, ◌∙◌, length, arith}
use Rattle.std.specs.Prelude.{ℤ, pos, ◌-ℤ◌, ◌≤ℤ◌, ◌<ℤ◌, List, [], ◌∷◌}
use Rattle.std.proofs.lemmas.Int.{ints}
use Rattle.tv_spec_plane.specs.Web.{degree_of}
use Rattle.tv_graded.specs.Calls.{IsAddedWide}
use Rattle.tv_frontier.specs.Joining.{IsOfState}
use Rattle.tv_frontier.specs.Rows.{IsCrowdedBy}
use Rattle.tv_frontier.proofs.RowAdded.{long, target-long, target-small, left-is, skipped, row-place, row-held, row-crowded}
use Rattle.tv_assigned_series.proofs.FamilyTold.{series-told}
use Rattle.tv_frontier.proofs.joins.join_row.Goals as goal

pub plus-requires-clause-same_length : goal.plus-requires-clause-same_length
plus-requires-clause-same_length g c = long g.met.C.Ring.laws c.known.ensures.graded c.known.ensures.heighted c.requires.stage c.requires.join c.args.class.now c.requires.class

pub plus-requires-clause-small : goal.plus-requires-clause-small
plus-requires-clause-small g c = target-small g.met.C.Ring.laws c.known.ensures.graded c.known.ensures.heighted c.requires.stage c.requires.join c.args.class.now c.requires.class _ refl c.known.ensures.coordinates c.known.ensures.rule

pub degree-requires-clause-same_length : goal.degree-requires-clause-same_length
degree-requires-clause-same_length g c = ap length c.heights.ensures.value ∙ (c.known.ensures.heighted.one_each ∙ sym (target-long g.met.C.Ring.laws c.known.ensures.graded c.known.ensures.heighted c.requires.stage c.requires.join c.args.class.now c.requires.class c.in_ok-target.target c.in_ok-target.ensures))

pub returns-then-degree-from-clause-held : goal.returns-then-degree-from-clause-held
returns-then-degree-from-clause-held g c =
    let degree : degree_of c.args.stage.now.web.now.heights c.in_ok-target.target ≡ c.degree.result = ap (λ hs. degree_of hs c.in_ok-target.target) (sym c.heights.ensures.value) ∙ sym c.degree.ensures in
    let great : pos c.args.stage.now.d <ℤ degree_of c.args.stage.now.web.now.heights c.in_ok-target.target = (let yes = c.if-degree-from.true in let f = c.from.ensures in omega (arith, ints)) in
    λ front held. skipped g.met.C.Ring.laws c.known.ensures.graded c.known.ensures.heighted c.requires.stage c.requires.join c.args.class.now c.requires.class c.in_ok-target.target c.in_ok-target.ensures front c.args.family.now great held

pub joined-requires-clause-state : goal.joined-requires-clause-state
joined-requires-clause-state g c =
    subst (λ (x : List ℤ). IsOfState g.C.Ring.ring c.args.stage.now.web.now c.args.stage.now.d c.args.stage.now.n c.args.stage.now.t c.args.join.now.first.now x (c.args.stage.now.upto -ℤ c.args.join.now.shift) c.args.series.now) (sym (left-is g.met.C.Ring.laws c.known.ensures.graded c.known.ensures.heighted c.requires.stage c.requires.join c.args.class.now c.requires.class c.in_ok-target.target c.in_ok-target.ensures)) c.requires.state

pub add_into-requires-clause-place : goal.add_into-requires-clause-place
add_into-requires-clause-place g c =
    let degree : degree_of c.args.stage.now.web.now.heights c.in_ok-target.target ≡ c.degree.result = ap (λ hs. degree_of hs c.in_ok-target.target) (sym c.heights.ensures.value) ∙ sym c.degree.ensures in
    let most : degree_of c.args.stage.now.web.now.heights c.in_ok-target.target ≤ℤ pos c.args.stage.now.d = (let no = c.if-degree-from.false in let f = c.from.ensures in omega (arith, ints)) in
    row-place g.met.C.Ring.laws c.known.ensures.graded c.known.ensures.heighted c.requires.stage c.requires.join c.args.class.now c.requires.class c.in_ok-target.target c.in_ok-target.ensures most c.in-Ok.joined c.in-Ok.ensures.joined c.args.family.now c.requires.shape

pub returns-in-Ok-add_into-clause-held : goal.returns-in-Ok-add_into-clause-held
returns-in-Ok-add_into-clause-held g c =
    let degree : degree_of c.args.stage.now.web.now.heights c.in_ok-target.target ≡ c.degree.result = ap (λ hs. degree_of hs c.in_ok-target.target) (sym c.heights.ensures.value) ∙ sym c.degree.ensures in
    let most : degree_of c.args.stage.now.web.now.heights c.in_ok-target.target ≤ℤ pos c.args.stage.now.d = (let no = c.if-degree-from.false in let f = c.from.ensures in omega (arith, ints)) in
    λ front held. row-held g.met.C.Ring.laws c.known.ensures.graded c.known.ensures.heighted c.requires.stage c.requires.join c.args.class.now c.requires.class c.in_ok-target.target c.in_ok-target.ensures most c.in-Ok.joined c.in-Ok.ensures.joined c.args.family.now c.requires.shape c.add_into.new.self front c.known-2.ensures.value c.in-Ok-add_into.ensures.ok held

pub returns-in-Err-add_into-clause-wide : goal.returns-in-Err-add_into-clause-wide
returns-in-Err-add_into-clause-wide g c =
    let degree : degree_of c.args.stage.now.web.now.heights c.in_ok-target.target ≡ c.degree.result = ap (λ hs. degree_of hs c.in_ok-target.target) (sym c.heights.ensures.value) ∙ sym c.degree.ensures in
    let most : degree_of c.args.stage.now.web.now.heights c.in_ok-target.target ≤ℤ pos c.args.stage.now.d = (let no = c.if-degree-from.false in let f = c.from.ensures in omega (arith, ints)) in
    rw (c.of_series.ensures.value, c.in_ok-named.ensures.value)
    (series-told (IsAddedWide g.C.Ring.ring c.in_ok-target.target c.in-Ok.joined c.args.family.now) (IsCrowdedBy g.C.Ring.IsValue g.C.Ring.ring c.args.stage.now.web.now c.args.stage.now.d c.args.stage.now.n c.args.stage.now.t c.args.join.now.first.now c.args.join.now.new.now (c.args.class.now ∷ []) c.args.family.now) c.in-Err-add_into.fault c.in_ok-target.target c.in-Err-add_into.ensures.wide
    (λ i wide front held room. row-crowded g.met.C.Ring.laws c.known.ensures.graded c.known.ensures.heighted c.requires.stage c.requires.join c.args.class.now c.requires.class c.in_ok-target.target c.in_ok-target.ensures most c.in-Ok.joined c.in-Ok.ensures.joined c.args.family.now c.requires.shape g.met.C.Ring.sizes front i held room wide))
