use Rattle.std.proofs.Common.{sym, ap, subst, ◌∙◌, ◌+◌, suc, length, take, drop, take_all, arith}
use Rattle.std.specs.Prelude.{◌<◌, ◌≤◌, ◌++◌, List, ℤ}
use Rattle.std.proofs.lemmas.List.{take-append-drop}
use Rattle.tv_spec_boxes.specs.Assignments.{Rows}
use Rattle.tv_spec_series.specs.Families.{classes}
use Rattle.tv_laws_frontier.specs.Steps.{states}
use Rattle.tv_frontier.specs.Layers.{state_addends, classed, layer_addends, GrowsBy, CrowdedIn}
use Rattle.tv_frontier.proofs.Among.{grows-none, grows-next, crowded-among}
use Rattle.tv_frontier.proofs.Next.{among-at, part-at, parts-long, classed-taken, classed-long}
use Rattle.tv_assigned_series.proofs.FamilyTold.{on-wide}
use Rattle.tv_frontier.proofs.Bounded.{suffices-at}
use Rattle.tv_frontier.proofs.layer.join_all.Goals as goal

pub loop-k-init : goal.loop-k-init
loop-k-init g c = record {
  one_each = c.requires.one_each;
  shaped = c.requires.shaped;
  grows = grows-none g.C.Ring.IsValue g.C.Ring.ring c.args.stage.now.web.now c.args.stage.now.d c.args.stage.now.n (suc c.args.stage.now.t) (state_addends c.args.stage.now.web.now c.args.stage.now.d c.args.stage.now.n c.args.stage.now.t c.args.step.now.options.items) c.args.step.now.keys.items c.args.parts.now;
}

pub join_state-requires-clause-first : goal.join_state-requires-clause-first
join_state-requires-clause-first g c = among-at c.args.layer.now.keys.items (states c.args.stage.now.web.now c.args.stage.now.d c.args.stage.now.t) c.loop-k.k c.index.result.now c.requires.layer.keys (let e = c.len-k-end.ensures in let h = c.loop-k-test.true in omega arith) c.index.ensures

pub join_state-requires-clause-part : goal.join_state-requires-clause-part
join_state-requires-clause-part g c =
    let bound : c.loop-k.k < length c.args.layer.now.keys.items = (let e = c.len-k-end.ensures in let h = c.loop-k-test.true in omega arith) in
    part-at g.C.Ring.IsValue g.C.Ring.ring c.args.stage.now.web.now c.args.stage.now.d c.args.stage.now.n c.args.stage.now.t c.args.layer.now.keys.items c.args.layer.now.parts.items c.loop-k.k c.index.result.now c.index-in-loop-k.result.now c.requires.layer.parts bound c.index.ensures c.index-in-loop-k.ensures

pub join_state-requires-clause-suffices : goal.join_state-requires-clause-suffices
join_state-requires-clause-suffices g c =
    let bound : c.loop-k.k < length c.args.layer.now.keys.items = (let e = c.len-k-end.ensures in let h = c.loop-k-test.true in omega arith) in
    let all = parts-long g.C.Ring.IsValue g.C.Ring.ring c.args.stage.now.web.now c.args.stage.now.d c.args.stage.now.n c.args.stage.now.t c.args.layer.now.keys.items c.args.layer.now.parts.items c.requires.layer.parts in
    suffices-at c.args.stage.now.web.now c.args.stage.now.d c.args.stage.now.n c.args.stage.now.t c.args.bounds.now c.args.layer.now.keys.items c.args.layer.now.parts.items c.loop-k.k c.index.result.now c.index-in-loop-k.result.now c.requires.layer.keys c.requires.suffice bound (omega arith) c.index.ensures c.index-in-loop-k.ensures

pub loop-k-preserved : goal.loop-k-preserved
loop-k-preserved g c =
    let bound : c.loop-k.k < length c.args.layer.now.keys.items = (let e = c.len-k-end.ensures in let h = c.loop-k-test.true in omega arith) in
    record {
      one_each = (let h = c.join_state.auto.parts in let e = c.loop-k.invariant.one_each in omega arith);
      shaped = c.in-Ok.ensures.shaped;
      grows = grows-next g.C.Ring.IsValue g.C.Ring.ring c.args.stage.now.web.now c.args.stage.now.d c.args.stage.now.n (suc c.args.stage.now.t) (state_addends c.args.stage.now.web.now c.args.stage.now.d c.args.stage.now.n c.args.stage.now.t c.args.step.now.options.items) c.args.step.now.keys.items (take c.loop-k.k (classed c.args.layer.now.keys.items c.args.layer.now.parts.items)) (take (c.loop-k.k + 1) (classed c.args.layer.now.keys.items c.args.layer.now.parts.items)) (c.index.result.now, classes c.index-in-loop-k.result.now.rows) c.args.parts.now c.loop-k.parts c.join_state.new.parts
          (classed-taken g.C.Ring.IsValue g.C.Ring.ring c.args.stage.now.web.now c.args.stage.now.d c.args.stage.now.n c.args.stage.now.t c.args.layer.now.keys.items c.args.layer.now.parts.items c.loop-k.k c.index.result.now c.index-in-loop-k.result.now c.requires.layer.parts bound c.index.ensures c.index-in-loop-k.ensures) c.loop-k.invariant.grows c.in-Ok.ensures.grows;
    }

pub returns-in-Err-clause-wide : goal.returns-in-Err-clause-wide
returns-in-Err-clause-wide g c =
    let bound : c.loop-k.k < length c.args.layer.now.keys.items = (let e = c.len-k-end.ensures in let h = c.loop-k-test.true in omega arith) in
    on-wide (CrowdedIn g.C.Ring.IsValue g.C.Ring.ring c.args.stage.now.web.now c.args.stage.now.d c.args.stage.now.n (suc c.args.stage.now.t) (state_addends c.args.stage.now.web.now c.args.stage.now.d c.args.stage.now.n c.args.stage.now.t c.args.step.now.options.items (c.index.result.now, classes c.index-in-loop-k.result.now.rows)) c.args.step.now.keys.items c.loop-k.parts) (CrowdedIn g.C.Ring.IsValue g.C.Ring.ring c.args.stage.now.web.now c.args.stage.now.d c.args.stage.now.n (suc c.args.stage.now.t) (layer_addends c.args.stage.now.web.now c.args.stage.now.d c.args.stage.now.n c.args.stage.now.t c.args.step.now.options.items (classed c.args.layer.now.keys.items c.args.layer.now.parts.items)) c.args.step.now.keys.items c.args.parts.now) c.in-Err.fault
    (λ v one. crowded-among g.C.Ring.IsValue g.C.Ring.ring c.args.stage.now.web.now c.args.stage.now.d c.args.stage.now.n (suc c.args.stage.now.t) (state_addends c.args.stage.now.web.now c.args.stage.now.d c.args.stage.now.n c.args.stage.now.t c.args.step.now.options.items) c.args.step.now.keys.items (take c.loop-k.k (classed c.args.layer.now.keys.items c.args.layer.now.parts.items)) (drop (c.loop-k.k + 1) (classed c.args.layer.now.keys.items c.args.layer.now.parts.items)) (classed c.args.layer.now.keys.items c.args.layer.now.parts.items) (c.index.result.now, classes c.index-in-loop-k.result.now.rows) c.args.parts.now c.loop-k.parts v
    (sym (take-append-drop (c.loop-k.k + 1) (classed c.args.layer.now.keys.items c.args.layer.now.parts.items)) ∙ ap (λ z. z ++ drop (c.loop-k.k + 1) (classed c.args.layer.now.keys.items c.args.layer.now.parts.items)) (classed-taken g.C.Ring.IsValue g.C.Ring.ring c.args.stage.now.web.now c.args.stage.now.d c.args.stage.now.n c.args.stage.now.t c.args.layer.now.keys.items c.args.layer.now.parts.items c.loop-k.k c.index.result.now c.index-in-loop-k.result.now c.requires.layer.parts bound c.index.ensures c.index-in-loop-k.ensures))
    c.loop-k.invariant.grows one)
    c.in-Err.ensures.wide

pub index-requires-in-loop-k : goal.index-requires-in-loop-k
index-requires-in-loop-k g c = let e = c.len-k-end.ensures in let h = c.loop-k-test.true in let l = parts-long g.C.Ring.IsValue g.C.Ring.ring c.args.stage.now.web.now c.args.stage.now.d c.args.stage.now.n c.args.stage.now.t c.args.layer.now.keys.items c.args.layer.now.parts.items c.requires.layer.parts in omega arith

pub returns-clause-grows : goal.returns-clause-grows
returns-clause-grows g c =
    let past : length (classed c.args.layer.now.keys.items c.args.layer.now.parts.items) ≤ c.loop-k.k = (let e = c.len-k-end.ensures in let h = c.loop-k-test.false in let l = classed-long g.C.Ring.IsValue g.C.Ring.ring c.args.stage.now.web.now c.args.stage.now.d c.args.stage.now.n c.args.stage.now.t c.args.layer.now.keys.items c.args.layer.now.parts.items c.requires.layer.parts in omega arith) in
    subst (λ (hs : List (List Rows × List (List ℤ))). GrowsBy g.C.Ring.IsValue g.C.Ring.ring c.args.stage.now.web.now c.args.stage.now.d c.args.stage.now.n (suc c.args.stage.now.t) (layer_addends c.args.stage.now.web.now c.args.stage.now.d c.args.stage.now.n c.args.stage.now.t c.args.step.now.options.items hs) c.args.step.now.keys.items c.args.parts.now c.loop-k.parts) (take_all c.loop-k.k (classed c.args.layer.now.keys.items c.args.layer.now.parts.items) past) c.loop-k.invariant.grows
