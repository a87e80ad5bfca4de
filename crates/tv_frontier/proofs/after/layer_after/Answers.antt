use Rattle.std.proofs.Common.{◌≡◌, ◌+◌, ◌-◌, ◌<◌, suc, refl, sym, subst, ◌∙◌, length, get_or, arith, w64, to_z, of_z}
use Rattle.std.specs.Prelude.{List, [], ℤ}
use Rattle.std.proofs.lemmas.Int.{ints}
use Rattle.std.proofs.lemmas.List.{get_or_default}
use Rattle.tv_frontier.specs.Bounds.{uptos, AllSuffice, AreBounds}
use Rattle.tv_frontier.proofs.Next.{stage-of, span-read, layer-read}
use Rattle.tv_frontier.proofs.Planned.{first-suffices, first-reach, next-suffices, next-reach}
use Rattle.tv_frontier.proofs.after.layer_after.Goals as goal

pub loop-t-init : goal.loop-t-init
loop-t-init g c = record {
  layer = c.in_ok-layer.ensures.layer;
  suffice = λ j sum. first-suffices c.args.stage.now.web.now c.args.stage.now.d c.args.stage.now.n c.args.stage.now.floor c.args.stage.now.upto (get_or c.in_ok-plan.plan.items j []) (uptos c.in_ok-layer.layer.parts.items) c.requires.span c.in_ok-layer.ensures.upto;
  reach = λ none. first-reach c.args.stage.now.web.now c.args.stage.now.d c.args.stage.now.n c.args.stage.now.floor c.args.stage.now.upto (uptos c.in_ok-layer.layer.parts.items) c.requires.span c.in_ok-layer.ensures.upto;
}

pub next_layer-requires-clause-stage : goal.next_layer-requires-clause-stage
next_layer-requires-clause-stage g c =
    let n : c.args.stage.now.n ≡ to_z w64 (of_z w64 c.args.stage.now.n) = (let f = c.requires.span.order in omega (arith, ints)) in
    let low : c.args.stage.now.floor ≡ to_z w64 (of_z w64 c.args.stage.now.floor) = (let f = c.requires.span.small_low in omega (arith, ints)) in
    let last : c.args.stage.now.upto ≡ to_z w64 (of_z w64 c.args.stage.now.upto) = (let f = c.requires.span.small_upto in omega (arith, ints)) in
    stage-of c.args.stage.now.web.now c.args.stage.now.d (to_z w64 (of_z w64 c.args.stage.now.n)) (to_z w64 (of_z w64 c.args.stage.now.floor)) (to_z w64 (of_z w64 c.args.stage.now.upto)) c.loop-t.t (span-read c.args.stage.now.web.now c.args.stage.now.d c.args.stage.now.n c.args.stage.now.floor c.args.stage.now.upto (to_z w64 (of_z w64 c.args.stage.now.n)) (to_z w64 (of_z w64 c.args.stage.now.floor)) (to_z w64 (of_z w64 c.args.stage.now.upto)) n low last c.requires.span) (let h = c.loop-t-test.true in let e = c.requires.corners in omega arith)

pub next_layer-requires-clause-layer : goal.next_layer-requires-clause-layer
next_layer-requires-clause-layer g c =
    let n : c.args.stage.now.n ≡ (to_z w64 (of_z w64 c.args.stage.now.n)) = (let f = c.requires.span.order in omega (arith, ints)) in
    layer-read g.C.Ring.ring c.args.stage.now.web.now c.args.stage.now.d c.args.stage.now.n (to_z w64 (of_z w64 c.args.stage.now.n)) c.loop-t.t c.loop-t.t c.loop-t.layer.keys.items c.loop-t.layer.parts.items n refl c.loop-t.invariant.layer

pub next_layer-requires-clause-bounds : goal.next_layer-requires-clause-bounds
next_layer-requires-clause-bounds g c =
    let n : c.args.stage.now.n ≡ (to_z w64 (of_z w64 c.args.stage.now.n)) = (let f = c.requires.span.order in omega (arith, ints)) in
    let within : ((c.args.stage.now.t - 1) - c.loop-t.t) < length c.in_ok-plan.plan.items = (let h = c.loop-t-test.true in let l = c.in_ok-plan.ensures.long in omega arith) in
    let read : get_or c.in_ok-plan.plan.items ((c.args.stage.now.t - 1) - c.loop-t.t) [] ≡ c.each-bounds.result.now = get_or_default c.in_ok-plan.plan.items ((c.args.stage.now.t - 1) - c.loop-t.t) [] c.index.result.now within ∙ sym (c.each-bounds.ensures ∙ c.index.ensures) in
    let bounds : AreBounds c.args.stage.now.web.now c.args.stage.now.d c.args.stage.now.n (suc c.loop-t.t) (get_or c.in_ok-plan.plan.items ((c.args.stage.now.t - 1) - c.loop-t.t) []) = c.in_ok-plan.ensures.each (suc c.loop-t.t) ((c.args.stage.now.t - 1) - c.loop-t.t) (let h = c.loop-t-test.true in omega arith) (let h = c.loop-t-test.true in omega arith) in
    subst (λ (z : ℤ). AreBounds c.args.stage.now.web.now c.args.stage.now.d z (suc c.loop-t.t) c.each-bounds.result.now) n (subst (AreBounds c.args.stage.now.web.now c.args.stage.now.d c.args.stage.now.n (suc c.loop-t.t)) read bounds)

pub next_layer-requires-clause-suffice : goal.next_layer-requires-clause-suffice
next_layer-requires-clause-suffice g c =
    let n : c.args.stage.now.n ≡ (to_z w64 (of_z w64 c.args.stage.now.n)) = (let f = c.requires.span.order in omega (arith, ints)) in
    let within : ((c.args.stage.now.t - 1) - c.loop-t.t) < length c.in_ok-plan.plan.items = (let h = c.loop-t-test.true in let l = c.in_ok-plan.ensures.long in omega arith) in
    let read : get_or c.in_ok-plan.plan.items ((c.args.stage.now.t - 1) - c.loop-t.t) [] ≡ c.each-bounds.result.now = get_or_default c.in_ok-plan.plan.items ((c.args.stage.now.t - 1) - c.loop-t.t) [] c.index.result.now within ∙ sym (c.each-bounds.ensures ∙ c.index.ensures) in
    let suffice : AllSuffice c.args.stage.now.web.now c.args.stage.now.d c.args.stage.now.n c.loop-t.t (get_or c.in_ok-plan.plan.items ((c.args.stage.now.t - 1) - c.loop-t.t) []) (uptos c.loop-t.layer.parts.items) = c.loop-t.invariant.suffice ((c.args.stage.now.t - 1) - c.loop-t.t) (let h = c.loop-t-test.true in omega arith) in
    subst (λ (z : ℤ). AllSuffice c.args.stage.now.web.now c.args.stage.now.d z c.loop-t.t c.each-bounds.result.now (uptos c.loop-t.layer.parts.items)) n (subst (λ (zs : List ℤ). AllSuffice c.args.stage.now.web.now c.args.stage.now.d c.args.stage.now.n c.loop-t.t zs (uptos c.loop-t.layer.parts.items)) read suffice)

pub loop-t-preserved : goal.loop-t-preserved
loop-t-preserved g c =
    let n : (to_z w64 (of_z w64 c.args.stage.now.n)) ≡ c.args.stage.now.n = (let f = c.requires.span.order in omega (arith, ints)) in
    let within : ((c.args.stage.now.t - 1) - c.loop-t.t) < length c.in_ok-plan.plan.items = (let h = c.loop-t-test.true in let l = c.in_ok-plan.ensures.long in omega arith) in
    let read : get_or c.in_ok-plan.plan.items ((c.args.stage.now.t - 1) - c.loop-t.t) [] ≡ c.each-bounds.result.now = get_or_default c.in_ok-plan.plan.items ((c.args.stage.now.t - 1) - c.loop-t.t) [] c.index.result.now within ∙ sym (c.each-bounds.ensures ∙ c.index.ensures) in
    record {
      layer = layer-read g.C.Ring.ring c.args.stage.now.web.now c.args.stage.now.d (to_z w64 (of_z w64 c.args.stage.now.n)) c.args.stage.now.n (suc c.loop-t.t) (c.loop-t.t + 1) c.in_ok-layer-2.layer.keys.items c.in_ok-layer-2.layer.parts.items n (omega arith) c.in_ok-layer-2.ensures.layer;
      suffice = next-suffices c.args.stage.now.web.now c.args.stage.now.d c.args.stage.now.n c.args.stage.now.t c.loop-t.t c.in_ok-plan.plan.items (uptos c.in_ok-layer-2.layer.parts.items) c.each-bounds.result.now c.in_ok-plan.ensures c.loop-t-test.true read c.in_ok-layer-2.ensures.bounds;
      reach = next-reach c.args.stage.now.web.now c.args.stage.now.d c.args.stage.now.n c.args.stage.now.t c.loop-t.t c.in_ok-plan.plan.items (uptos c.in_ok-layer-2.layer.parts.items) c.each-bounds.result.now c.in_ok-plan.ensures c.loop-t-test.true read c.in_ok-layer-2.ensures.bounds;
    }

pub returns-clause-layer : goal.returns-clause-layer
returns-clause-layer g c =
    let last : c.loop-t.t ≡ c.args.stage.now.t = (let h = c.loop-t-test.false in let e = c.loop-t.auto.t-end in omega arith) in
    layer-read g.C.Ring.ring c.args.stage.now.web.now c.args.stage.now.d c.args.stage.now.n c.args.stage.now.n c.loop-t.t c.args.stage.now.t c.loop-t.layer.keys.items c.loop-t.layer.parts.items refl last c.loop-t.invariant.layer

pub returns-clause-reach : goal.returns-clause-reach
returns-clause-reach g c = c.loop-t.invariant.reach (let h = c.loop-t-test.false in let e = c.loop-t.auto.t-end in omega arith)
