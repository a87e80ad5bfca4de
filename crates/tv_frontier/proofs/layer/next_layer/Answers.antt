use Rattle.std.proofs.Common.{sym, ap, subst, suc, ◌∙◌, length, arith}
use Rattle.std.specs.Prelude.{◌≡◌, List}
use Rattle.tv_spec_series.specs.Families.{Family}
use Rattle.tv_assigned_series.specs.FamilyFaults.{IsCrowded}
use Rattle.tv_frontier.specs.Bounds.{uptos}
use Rattle.tv_frontier.specs.Layers.{AllShaped, AreWithout, classed, layer_addends, CrowdedIn, IsLayer}
use Rattle.tv_frontier.proofs.Bounded.{without-shaped, shaped-long, shaped-uptos}
use Rattle.tv_frontier.proofs.Next.{layer-next, layer-crowded, whole-back}
use Rattle.tv_assigned_series.proofs.FamilyTold.{on-wide}
use Rattle.tv_frontier.proofs.layer.next_layer.Goals as goal

pub join_all-requires-clause-one_each : goal.join_all-requires-clause-one_each
join_all-requires-clause-one_each g c =
    let shaped = without-shaped c.args.stage.now.web.now c.args.stage.now.d c.args.bounds.now c.in_ok-parts.parts.items c.in_ok-parts.ensures in
    ap length c.deref_mut.ensures.value ∙ (shaped-long c.args.stage.now.web.now c.args.stage.now.d c.args.bounds.now c.in_ok-parts.parts.items shaped ∙ (c.requires.bounds.one_each ∙ ap length (sym c.in_ok-step.ensures.keys)))

pub join_all-requires-clause-shaped : goal.join_all-requires-clause-shaped
join_all-requires-clause-shaped g c = subst (λ (fs : List (Family _)). AllShaped c.args.stage.now.web.now c.args.stage.now.d c.args.bounds.now fs) (sym c.deref_mut.ensures.value) (without-shaped c.args.stage.now.web.now c.args.stage.now.d c.args.bounds.now c.in_ok-parts.parts.items c.in_ok-parts.ensures)

pub returns-in-Ok-clause-layer : goal.returns-in-Ok-clause-layer
returns-in-Ok-clause-layer g c =
    let none : AreWithout c.args.stage.now.web.now c.args.stage.now.d c.args.bounds.now c.deref_mut.result.now = subst (λ (fs : List (Family _)). AreWithout c.args.stage.now.web.now c.args.stage.now.d c.args.bounds.now fs) (sym c.deref_mut.ensures.value) c.in_ok-parts.ensures in
    let back : length c.join_all.new.parts ≡ c.in_ok-parts.parts.len = (let a = c.join_all.auto.parts in let v = ap length c.deref_mut.ensures.value in let o = c.in_ok-parts.parts.ok in omega arith) in
    let whole : length c.in_ok-parts.parts.items ≡ c.in_ok-parts.parts.len = (let o = c.in_ok-parts.parts.ok in omega arith) in
    subst (λ (fs : List (Family _)). IsLayer g.C.Ring.IsValue g.C.Ring.ring c.args.stage.now.web.now c.args.stage.now.d c.args.stage.now.n (suc c.args.stage.now.t) c.in_ok-step.step.keys.items fs) (sym (whole-back c.join_all.new.parts c.in_ok-parts.parts.items c.in_ok-parts.parts.len back whole))
    (layer-next g.met.C.Ring.laws c.known.ensures.graded c.known.ensures.heighted c.requires.stage c.in_ok-step.ensures c.requires.layer c.args.bounds.now c.requires.bounds c.deref_mut.result.now none c.join_all.new.parts c.in-Ok.ensures.shaped c.in-Ok.ensures.grows)

pub returns-in-Ok-clause-bounds : goal.returns-in-Ok-clause-bounds
returns-in-Ok-clause-bounds g c =
    let back : length c.join_all.new.parts ≡ c.in_ok-parts.parts.len = (let a = c.join_all.auto.parts in let v = ap length c.deref_mut.ensures.value in let o = c.in_ok-parts.parts.ok in omega arith) in
    let whole : length c.in_ok-parts.parts.items ≡ c.in_ok-parts.parts.len = (let o = c.in_ok-parts.parts.ok in omega arith) in
    ap uptos (whole-back c.join_all.new.parts c.in_ok-parts.parts.items c.in_ok-parts.parts.len back whole) ∙ shaped-uptos c.args.stage.now.web.now c.args.stage.now.d c.args.bounds.now c.join_all.new.parts c.in-Ok.ensures.shaped

pub returns-in-Err-clause-wide : goal.returns-in-Err-clause-wide
returns-in-Err-clause-wide g c =
    let none : AreWithout c.args.stage.now.web.now c.args.stage.now.d c.args.bounds.now c.deref_mut.result.now = subst (λ (fs : List (Family _)). AreWithout c.args.stage.now.web.now c.args.stage.now.d c.args.bounds.now fs) (sym c.deref_mut.ensures.value) c.in_ok-parts.ensures in
    on-wide (CrowdedIn g.C.Ring.IsValue g.C.Ring.ring c.args.stage.now.web.now c.args.stage.now.d c.args.stage.now.n (suc c.args.stage.now.t) (layer_addends c.args.stage.now.web.now c.args.stage.now.d c.args.stage.now.n c.args.stage.now.t c.in_ok-step.step.options.items (classed c.args.layer.now.keys.items c.args.layer.now.parts.items)) c.in_ok-step.step.keys.items c.deref_mut.result.now) (IsCrowded g.C.Ring.ring c.args.stage.now.web.now c.args.stage.now.d c.args.stage.now.n) c.in-Err.fault
    (layer-crowded g.met.C.Ring.laws c.known.ensures.graded c.known.ensures.heighted c.requires.stage c.in_ok-step.ensures c.requires.layer c.args.bounds.now c.requires.bounds c.deref_mut.result.now none)
    c.in-Err.ensures.wide
