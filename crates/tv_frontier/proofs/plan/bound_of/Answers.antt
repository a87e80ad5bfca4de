use Rattle.std.proofs.Common.{◌≡◌, ◌<◌, ◌≤◌, ap, subst, ◌∙◌, length, take_all, le_trans, arith, w64, to_z, of_z}
use Rattle.std.specs.Prelude.{List}
use Rattle.std.specs.Int.{int_min, int_max}
use Rattle.std.specs.List.{AllByRecursion}
use Rattle.std.proofs.lemmas.Int.{ints, clamps}
use Rattle.tv_spec_plane.specs.Web.{compact}
use Rattle.tv_spec_boxes.specs.Assignments.{Rows}
use Rattle.tv_spec_partial.specs.Partial.{is_pending}
use Rattle.tv_laws_frontier.specs.Steps.{options, nothing}
use Rattle.tv_frontier.specs.Picks.{put_by}
use Rattle.tv_frontier.specs.Bounds.{NeedsAtMost}
use Rattle.tv_frontier.proofs.Next.{spread-is, among-at}
use Rattle.tv_frontier.proofs.Pair.{state-few}
use Rattle.tv_frontier.proofs.Planned.{needs-next, suffices-all, least-bound}
use Rattle.tv_frontier.proofs.plan.bound_of.Goals as goal

pub spread_over-requires : goal.spread_over-requires
spread_over-requires c = record { few = le_trans (state-few c.args.stage.now.web.now c.args.stage.now.d c.args.stage.now.t c.args.key.now c.known.ensures.graded c.requires.key) c.requires.span.degree }

pub loop-k-init : goal.loop-k-init
loop-k-init c =
    let low = c.requires.span.small_low in
    record { first = omega (arith, ints); small = omega (arith, ints); needs = tt }

pub needed_with-requires-clause-new : goal.needed_with-requires-clause-new
needed_with-requires-clause-new c = among-at c.args.step.now.options.items (options c.args.stage.now.web.now c.args.stage.now.d c.args.stage.now.t) c.loop-k.k c.index.result.now c.requires.step.options (let e = c.len-k-end.ensures in let h = c.loop-k-test.true in omega arith) c.index.ensures

pub needed_with-requires-clause-spread : goal.needed_with-requires-clause-spread
needed_with-requires-clause-spread c = spread-is c.args.stage.now.web.now (is_pending c.args.stage.now.t) c.args.step.now.pending.items c.args.key.now c.in_ok-spread.spread.part c.requires.step.pending (c.in_ok-spread.ensures.part ∙ ap (λ fs. put_by fs c.args.key.now (nothing (compact c.args.stage.now.web.now))) c.deref.ensures.value)

pub loop-k-preserved : goal.loop-k-preserved
loop-k-preserved c =
    let bound : c.loop-k.k < length c.args.step.now.options.items = (let e = c.len-k-end.ensures in let h = c.loop-k-test.true in omega arith) in
    let most = c.in_ok-needed.ensures.small in
    let small = c.loop-k.invariant.small in
    let first = c.loop-k.invariant.first in
    let value : (to_z w64 (of_z w64 c.greater-bound.result)) ≡ int_max (to_z w64 c.loop-k.bound-bits) c.in_ok-needed.needed = (let v = c.greater-bound.ensures.value in omega (arith, ints, clamps)) in
    record {
      first = omega (arith, ints, clamps);
      small = omega (arith, ints, clamps);
      needs = needs-next c.args.stage.now.web.now c.args.stage.now.d c.args.stage.now.t c.args.next.now c.args.key.now c.args.step.now.options.items c.loop-k.k c.index.result.now (to_z w64 c.loop-k.bound-bits) c.in_ok-needed.needed (to_z w64 (of_z w64 c.greater-bound.result)) bound c.index.ensures value c.loop-k.invariant.needs c.in_ok-needed.ensures.needs;
    }

pub returns-clause-bound : goal.returns-clause-bound
returns-clause-bound c =
    let value : (to_z w64 (of_z w64 c.lesser.result)) ≡ int_min (to_z w64 c.loop-k.bound-bits) c.args.stage.now.upto = (let v = c.lesser.ensures.value in let s = c.loop-k.invariant.small in let u = c.requires.span.small_upto in omega (arith, ints, clamps)) in
    least-bound c.args.stage.now.web.now c.args.stage.now.d c.args.stage.now.n c.args.stage.now.floor c.args.stage.now.upto (to_z w64 c.loop-k.bound-bits) (to_z w64 (of_z w64 c.lesser.result)) c.requires.span c.loop-k.invariant.first value

pub returns-clause-suffices : goal.returns-clause-suffices
returns-clause-suffices c =
    let value : (to_z w64 (of_z w64 c.lesser.result)) ≡ int_min (to_z w64 c.loop-k.bound-bits) c.args.stage.now.upto = (let v = c.lesser.ensures.value in let s = c.loop-k.invariant.small in let u = c.requires.span.small_upto in omega (arith, ints, clamps)) in
    let past : length c.args.step.now.options.items ≤ c.loop-k.k = (let e = c.len-k-end.ensures in let h = c.loop-k-test.false in omega arith) in
    let all = subst (λ (gs : List (List Rows)). AllByRecursion (NeedsAtMost c.args.stage.now.web.now c.args.stage.now.d c.args.stage.now.t c.args.next.now c.args.key.now (to_z w64 c.loop-k.bound-bits)) gs) (take_all c.loop-k.k c.args.step.now.options.items past) c.loop-k.invariant.needs in
    suffices-all c.args.stage.now.web.now c.args.stage.now.d c.args.stage.now.t c.args.next.now c.args.key.now c.args.stage.now.n c.args.stage.now.upto (to_z w64 c.loop-k.bound-bits) (to_z w64 (of_z w64 c.lesser.result)) c.args.step.now.options.items c.requires.step.options c.requires.span.upto value all
