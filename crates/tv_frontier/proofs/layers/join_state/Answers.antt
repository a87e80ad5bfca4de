use Rattle.std.proofs.Common.{sym, ap, subst, ◌∙◌, ◌+◌, suc, length, take, drop, take_all, le_trans, arith}
use Rattle.std.specs.Prelude.{◌<◌, ◌≤◌, ◌++◌}
use Rattle.std.proofs.lemmas.List.{take-append-drop}
use Rattle.tv_spec_partial.specs.Partial.{is_pending}
use Rattle.tv_spec_plane.specs.Web.{compact}
use Rattle.std.specs.Prelude.{List}
use Rattle.tv_spec_boxes.specs.Assignments.{Rows}
use Rattle.tv_spec_series.specs.Families.{classes}
use Rattle.tv_laws_frontier.specs.Steps.{options, nothing}
use Rattle.tv_assigned_series.specs.FamilyFaults.{OnWide}
use Rattle.tv_frontier.specs.Picks.{put_by}
use Rattle.tv_frontier.specs.Layers.{pair_addends, state_addends, GrowsBy, CrowdedIn}
use Rattle.tv_frontier.proofs.Among.{grows-none, grows-next, crowded-among}
use Rattle.tv_frontier.proofs.Next.{spread-is, among-at, take-next}
use Rattle.tv_frontier.proofs.Pair.{state-few}
use Rattle.tv_assigned_series.proofs.FamilyTold.{on-wide}
use Rattle.tv_frontier.proofs.layers.join_state.Goals as goal

pub spread_over-requires : goal.spread_over-requires
spread_over-requires g c = record { few = le_trans (state-few c.args.stage.now.web.now c.args.stage.now.d c.args.stage.now.t c.args.key.now c.known.ensures.graded c.requires.first) c.requires.stage.degree }

pub loop-k-init : goal.loop-k-init
loop-k-init g c = record {
  one_each = c.requires.one_each;
  shaped = c.requires.shaped;
  grows = grows-none g.C.Ring.IsValue g.C.Ring.ring c.args.stage.now.web.now c.args.stage.now.d c.args.stage.now.n (suc c.args.stage.now.t) (λ o. pair_addends c.args.stage.now.web.now c.args.stage.now.d c.args.stage.now.n c.args.stage.now.t c.args.key.now o (classes c.args.part.now.rows)) c.args.step.now.keys.items c.args.parts.now;
}

pub join_pair-requires-clause-new : goal.join_pair-requires-clause-new
join_pair-requires-clause-new g c = among-at c.args.step.now.options.items (options c.args.stage.now.web.now c.args.stage.now.d c.args.stage.now.t) c.loop-k.k c.index.result.now c.requires.step.options (let e = c.len-k-end.ensures in let h = c.loop-k-test.true in omega arith) c.index.ensures

pub join_pair-requires-clause-spread : goal.join_pair-requires-clause-spread
join_pair-requires-clause-spread g c = spread-is c.args.stage.now.web.now (is_pending c.args.stage.now.t) c.args.step.now.pending.items c.args.key.now c.in_ok-spread.spread.part c.requires.step.pending (c.in_ok-spread.ensures.part ∙ ap (λ fs. put_by fs c.args.key.now (nothing (compact c.args.stage.now.web.now))) c.deref.ensures.value)

pub join_pair-requires-clause-keys : goal.join_pair-requires-clause-keys
join_pair-requires-clause-keys g c = c.deref-in-loop-k-3.ensures.value ∙ c.requires.step.keys

pub loop-k-preserved : goal.loop-k-preserved
loop-k-preserved g c =
    let bound : c.loop-k.k < length c.args.step.now.options.items = (let e = c.len-k-end.ensures in let h = c.loop-k-test.true in omega arith) in
    record {
      one_each = (let h = c.join_pair.auto.parts in let e = c.loop-k.invariant.one_each in omega arith);
      shaped = c.in-Ok.ensures.shaped;
      grows = grows-next g.C.Ring.IsValue g.C.Ring.ring c.args.stage.now.web.now c.args.stage.now.d c.args.stage.now.n (suc c.args.stage.now.t) (λ o. pair_addends c.args.stage.now.web.now c.args.stage.now.d c.args.stage.now.n c.args.stage.now.t c.args.key.now o (classes c.args.part.now.rows)) c.args.step.now.keys.items (take c.loop-k.k c.args.step.now.options.items) (take (c.loop-k.k + 1) c.args.step.now.options.items) c.index.result.now c.args.parts.now c.loop-k.parts c.join_pair.new.parts
          (take-next c.args.step.now.options.items c.loop-k.k c.index.result.now bound c.index.ensures) c.loop-k.invariant.grows
          (subst (λ (ks : List (List Rows)). GrowsBy g.C.Ring.IsValue g.C.Ring.ring c.args.stage.now.web.now c.args.stage.now.d c.args.stage.now.n (suc c.args.stage.now.t) (pair_addends c.args.stage.now.web.now c.args.stage.now.d c.args.stage.now.n c.args.stage.now.t c.args.key.now c.index.result.now (classes c.args.part.now.rows)) ks c.loop-k.parts c.join_pair.new.parts) c.deref-in-loop-k-3.ensures.value c.in-Ok.ensures.grows);
    }

pub returns-in-Err-clause-wide : goal.returns-in-Err-clause-wide
returns-in-Err-clause-wide g c =
    let bound : c.loop-k.k < length c.args.step.now.options.items = (let e = c.len-k-end.ensures in let h = c.loop-k-test.true in omega arith) in
    on-wide (CrowdedIn g.C.Ring.IsValue g.C.Ring.ring c.args.stage.now.web.now c.args.stage.now.d c.args.stage.now.n (suc c.args.stage.now.t) (pair_addends c.args.stage.now.web.now c.args.stage.now.d c.args.stage.now.n c.args.stage.now.t c.args.key.now c.index.result.now (classes c.args.part.now.rows)) c.args.step.now.keys.items c.loop-k.parts) (CrowdedIn g.C.Ring.IsValue g.C.Ring.ring c.args.stage.now.web.now c.args.stage.now.d c.args.stage.now.n (suc c.args.stage.now.t) (state_addends c.args.stage.now.web.now c.args.stage.now.d c.args.stage.now.n c.args.stage.now.t c.args.step.now.options.items (c.args.key.now, classes c.args.part.now.rows)) c.args.step.now.keys.items c.args.parts.now) c.in-Err.fault
    (λ v one. crowded-among g.C.Ring.IsValue g.C.Ring.ring c.args.stage.now.web.now c.args.stage.now.d c.args.stage.now.n (suc c.args.stage.now.t) (λ o. pair_addends c.args.stage.now.web.now c.args.stage.now.d c.args.stage.now.n c.args.stage.now.t c.args.key.now o (classes c.args.part.now.rows)) c.args.step.now.keys.items (take c.loop-k.k c.args.step.now.options.items) (drop (c.loop-k.k + 1) c.args.step.now.options.items) c.args.step.now.options.items c.index.result.now c.args.parts.now c.loop-k.parts v
    (sym (take-append-drop (c.loop-k.k + 1) c.args.step.now.options.items) ∙ ap (λ z. z ++ drop (c.loop-k.k + 1) c.args.step.now.options.items) (take-next c.args.step.now.options.items c.loop-k.k c.index.result.now bound c.index.ensures))
    c.loop-k.invariant.grows one)
    (subst (λ (ks : List (List Rows)). OnWide c.in-Err.fault (CrowdedIn g.C.Ring.IsValue g.C.Ring.ring c.args.stage.now.web.now c.args.stage.now.d c.args.stage.now.n (suc c.args.stage.now.t) (pair_addends c.args.stage.now.web.now c.args.stage.now.d c.args.stage.now.n c.args.stage.now.t c.args.key.now c.index.result.now (classes c.args.part.now.rows)) ks c.loop-k.parts)) c.deref-in-loop-k-3.ensures.value c.in-Err.ensures.wide)

pub returns-clause-grows : goal.returns-clause-grows
returns-clause-grows g c =
    let past : length c.args.step.now.options.items ≤ c.loop-k.k = (let e = c.len-k-end.ensures in let h = c.loop-k-test.false in omega arith) in
    subst (λ (os : List (List Rows)). GrowsBy g.C.Ring.IsValue g.C.Ring.ring c.args.stage.now.web.now c.args.stage.now.d c.args.stage.now.n (suc c.args.stage.now.t) (state_addends c.args.stage.now.web.now c.args.stage.now.d c.args.stage.now.n c.args.stage.now.t os (c.args.key.now, classes c.args.part.now.rows)) c.args.step.now.keys.items c.args.parts.now c.loop-k.parts) (take_all c.loop-k.k c.args.step.now.options.items past) c.loop-k.invariant.grows
