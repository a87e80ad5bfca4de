use Rattle.std.proofs.Common.{◌≡◌, sym, ap, ◌∙◌, inl, inr, length, le_trans, arith}
use Rattle.std.specs.Prelude.{pos, ◌≤ℤ◌, ◌<ℤ◌}
use Rattle.std.proofs.lemmas.Int.{ints}
use Rattle.tv_lemmas.specs.Sums.{plus}
use Rattle.tv_spec_plane.specs.Web.{degree_of}
use Rattle.tv_spec_boxes.specs.Assignments.{class_of}
use Rattle.tv_laws_frontier.specs.Steps.{near_part}
use Rattle.tv_frontier.specs.Picks.{picks, put_by}
use Rattle.tv_frontier.proofs.Spread.{option-few}
use Rattle.tv_frontier.proofs.Pair.{added-is, seen-is, after-is, near-is, both-long, sum-long, both-small, absent-after, is-after}
use Rattle.tv_frontier.proofs.layers.meeting_of.Goals as goal

pub spread_over-requires : goal.spread_over-requires
spread_over-requires c = record { few = le_trans (option-few c.args.stage.now.web.now c.args.stage.now.d c.args.stage.now.t c.args.option.now c.known.ensures.graded c.requires.new) c.requires.stage.degree }

pub plus-requires-clause-same_length : goal.plus-requires-clause-same_length
plus-requires-clause-same_length c = both-long c.args.stage.now.web.now c.args.stage.now.d c.args.stage.now.t c.args.key.now c.args.option.now c.args.spread.now.part c.in_ok-added.added.part c.args.spread.now.class c.in_ok-added.added.class (plus c.args.spread.now.class c.in_ok-added.added.class) c.args.fresh.now c.requires.fresh c.requires.spread c.requires.class c.in_ok-added.ensures.part c.in_ok-added.ensures.class

pub plus-requires-clause-small : goal.plus-requires-clause-small
plus-requires-clause-small c = both-small c.args.stage.now.web.now c.args.stage.now.d c.args.stage.now.t c.args.key.now c.args.option.now c.args.spread.now.part c.in_ok-added.added.part c.args.spread.now.class c.in_ok-added.added.class (plus c.args.spread.now.class c.in_ok-added.added.class) c.args.fresh.now c.requires.fresh c.requires.spread c.requires.class c.in_ok-added.ensures.part c.in_ok-added.ensures.class c.known.ensures.graded c.known.ensures.coordinates c.known.ensures.rule c.requires.stage.degree c.requires.first c.requires.new

pub degree-requires-clause-same_length : goal.degree-requires-clause-same_length
degree-requires-clause-same_length c = ap length c.heights.ensures.value ∙ (c.known.ensures.heighted.one_each ∙ sym (sum-long c.args.stage.now.web.now c.args.stage.now.d c.args.stage.now.t c.args.key.now c.args.option.now c.args.spread.now.part c.in_ok-added.added.part c.args.spread.now.class c.in_ok-added.added.class c.in_ok-near.near c.args.fresh.now c.requires.fresh c.requires.spread c.requires.class c.in_ok-added.ensures.part c.in_ok-added.ensures.class c.in_ok-near.ensures))

pub returns-then-degree-from-clause-after : goal.returns-then-degree-from-clause-after
returns-then-degree-from-clause-after c =
    let near = near-is c.args.stage.now.web.now c.args.stage.now.d c.args.stage.now.t c.args.key.now c.args.option.now c.args.spread.now.part c.in_ok-added.added.part c.args.spread.now.class c.in_ok-added.added.class c.in_ok-near.near c.args.fresh.now c.requires.fresh c.requires.spread c.requires.class c.in_ok-added.ensures.part c.in_ok-added.ensures.class c.in_ok-near.ensures in
    let degree : degree_of c.args.stage.now.web.now.heights (class_of c.args.stage.now.web.now (near_part c.args.stage.now.web.now c.args.stage.now.t c.args.key.now c.args.option.now)) ≡ c.degree.result = ap (λ v. degree_of c.args.stage.now.web.now.heights v) (sym near) ∙ (ap (λ hs. degree_of hs c.in_ok-near.near) (sym c.heights.ensures.value) ∙ sym c.degree.ensures) in
    let great : pos c.args.stage.now.d <ℤ degree_of c.args.stage.now.web.now.heights (class_of c.args.stage.now.web.now (near_part c.args.stage.now.web.now c.args.stage.now.t c.args.key.now c.args.option.now)) = (let over = c.if-degree-from.true in let f = c.from.ensures in omega (arith, ints)) in
    inl great

pub returns-in_default-clause-after : goal.returns-in_default-clause-after
returns-in_default-clause-after c =
    let seen = seen-is c.args.stage.now.web.now c.args.stage.now.d c.args.stage.now.t c.args.key.now c.args.option.now c.args.spread.now.part c.in_ok-added.added.part c.args.spread.now.class c.in_ok-added.added.class c.in_ok-near.near c.args.fresh.now c.requires.fresh c.requires.spread c.requires.class c.in_ok-added.ensures.part c.in_ok-added.ensures.class c.new-seen.result (c.new-seen.ensures ∙ (c.in_ok-put.ensures ∙ (ap (λ g. put_by c.args.fresh.now g c.diagrams-2.result.now) c.diagrams.ensures ∙ ap (put_by c.args.fresh.now c.args.option.now) c.diagrams-2.ensures))) in
    let after = after-is c.args.stage.now.web.now c.args.stage.now.d c.args.stage.now.t c.args.key.now c.args.option.now c.args.spread.now.part c.in_ok-added.added.part c.args.spread.now.class c.in_ok-added.added.class c.in_ok-near.near c.args.fresh.now c.requires.fresh c.requires.spread c.requires.class c.in_ok-added.ensures.part c.in_ok-added.ensures.class c.new-seen.result c.args.after.now c.in_ok-chosen.chosen.items seen c.requires.after (c.in_ok-chosen.ensures ∙ ap (picks c.args.after.now) c.diagrams-3.ensures) in
    inr (absent-after c.args.stage.now.web.now c.args.stage.now.d c.args.stage.now.t c.args.key.now c.args.option.now c.args.keys.now c.deref.result.now c.requires.keys (c.deref.ensures.value ∙ after) c.in_default.ensures)

pub join_of-requires-clause-part : goal.join_of-requires-clause-part
join_of-requires-clause-part c = added-is c.args.stage.now.web.now c.args.stage.now.d c.args.stage.now.t c.args.key.now c.args.option.now c.args.spread.now.part c.in_ok-added.added.part c.args.spread.now.class c.in_ok-added.added.class c.in_ok-near.near c.args.fresh.now c.requires.fresh c.requires.spread c.requires.class c.in_ok-added.ensures.part c.in_ok-added.ensures.class

pub join_of-requires-clause-seen : goal.join_of-requires-clause-seen
join_of-requires-clause-seen c =
    let seen = seen-is c.args.stage.now.web.now c.args.stage.now.d c.args.stage.now.t c.args.key.now c.args.option.now c.args.spread.now.part c.in_ok-added.added.part c.args.spread.now.class c.in_ok-added.added.class c.in_ok-near.near c.args.fresh.now c.requires.fresh c.requires.spread c.requires.class c.in_ok-added.ensures.part c.in_ok-added.ensures.class c.new-seen.result (c.new-seen.ensures ∙ (c.in_ok-put.ensures ∙ (ap (λ g. put_by c.args.fresh.now g c.diagrams-2.result.now) c.diagrams.ensures ∙ ap (put_by c.args.fresh.now c.args.option.now) c.diagrams-2.ensures))) in
    seen

pub join_of-requires-clause-near : goal.join_of-requires-clause-near
join_of-requires-clause-near c =
    let seen = seen-is c.args.stage.now.web.now c.args.stage.now.d c.args.stage.now.t c.args.key.now c.args.option.now c.args.spread.now.part c.in_ok-added.added.part c.args.spread.now.class c.in_ok-added.added.class c.in_ok-near.near c.args.fresh.now c.requires.fresh c.requires.spread c.requires.class c.in_ok-added.ensures.part c.in_ok-added.ensures.class c.new-seen.result (c.new-seen.ensures ∙ (c.in_ok-put.ensures ∙ (ap (λ g. put_by c.args.fresh.now g c.diagrams-2.result.now) c.diagrams.ensures ∙ ap (put_by c.args.fresh.now c.args.option.now) c.diagrams-2.ensures))) in
    near-is c.args.stage.now.web.now c.args.stage.now.d c.args.stage.now.t c.args.key.now c.args.option.now c.args.spread.now.part c.in_ok-added.added.part c.args.spread.now.class c.in_ok-added.added.class c.in_ok-near.near c.args.fresh.now c.requires.fresh c.requires.spread c.requires.class c.in_ok-added.ensures.part c.in_ok-added.ensures.class c.in_ok-near.ensures ∙ ap (class_of c.args.stage.now.web.now) (sym seen)

pub returns-clause-after : goal.returns-clause-after
returns-clause-after c =
    let near = near-is c.args.stage.now.web.now c.args.stage.now.d c.args.stage.now.t c.args.key.now c.args.option.now c.args.spread.now.part c.in_ok-added.added.part c.args.spread.now.class c.in_ok-added.added.class c.in_ok-near.near c.args.fresh.now c.requires.fresh c.requires.spread c.requires.class c.in_ok-added.ensures.part c.in_ok-added.ensures.class c.in_ok-near.ensures in
    let degree : degree_of c.args.stage.now.web.now.heights (class_of c.args.stage.now.web.now (near_part c.args.stage.now.web.now c.args.stage.now.t c.args.key.now c.args.option.now)) ≡ c.degree.result = ap (λ v. degree_of c.args.stage.now.web.now.heights v) (sym near) ∙ (ap (λ hs. degree_of hs c.in_ok-near.near) (sym c.heights.ensures.value) ∙ sym c.degree.ensures) in
    let most : degree_of c.args.stage.now.web.now.heights (class_of c.args.stage.now.web.now (near_part c.args.stage.now.web.now c.args.stage.now.t c.args.key.now c.args.option.now)) ≤ℤ pos c.args.stage.now.d = (let differs = c.if-degree-from.false in let f = c.from.ensures in omega (arith, ints)) in
    let seen = seen-is c.args.stage.now.web.now c.args.stage.now.d c.args.stage.now.t c.args.key.now c.args.option.now c.args.spread.now.part c.in_ok-added.added.part c.args.spread.now.class c.in_ok-added.added.class c.in_ok-near.near c.args.fresh.now c.requires.fresh c.requires.spread c.requires.class c.in_ok-added.ensures.part c.in_ok-added.ensures.class c.new-seen.result (c.new-seen.ensures ∙ (c.in_ok-put.ensures ∙ (ap (λ g. put_by c.args.fresh.now g c.diagrams-2.result.now) c.diagrams.ensures ∙ ap (put_by c.args.fresh.now c.args.option.now) c.diagrams-2.ensures))) in
    let after = after-is c.args.stage.now.web.now c.args.stage.now.d c.args.stage.now.t c.args.key.now c.args.option.now c.args.spread.now.part c.in_ok-added.added.part c.args.spread.now.class c.in_ok-added.added.class c.in_ok-near.near c.args.fresh.now c.requires.fresh c.requires.spread c.requires.class c.in_ok-added.ensures.part c.in_ok-added.ensures.class c.new-seen.result c.args.after.now c.in_ok-chosen.chosen.items seen c.requires.after (c.in_ok-chosen.ensures ∙ ap (picks c.args.after.now) c.diagrams-3.ensures) in
    is-after c.args.stage.now.web.now c.args.stage.now.d c.args.stage.now.t c.args.key.now c.args.option.now c.args.keys.now c.in-Some.place c.deref.result.now c.requires.keys (c.deref.ensures.value ∙ after) most c.in-Some.ensures.0 c.in-Some.ensures.1
