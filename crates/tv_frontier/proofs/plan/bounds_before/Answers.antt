use Rattle.std.proofs.Common.{◌≡◌, ◌<◌, ◌≤◌, sym, ap, subst, ◌∙◌, length, get_or, arith, w64, to_z, of_z}
use Rattle.std.specs.Prelude.{[], ◌∷◌, ◌++◌}
use Rattle.std.specs.List.{AllByRecursion}
use Rattle.std.proofs.lemmas.Int.{ints}
use Rattle.std.proofs.lemmas.List.{get_or_default}
use Rattle.tv_spec_partial.specs.Partial.{is_pending}
use Rattle.tv_laws_frontier.specs.Steps.{states}
use Rattle.tv_frontier.specs.Rows.{IsBound}
use Rattle.tv_frontier.proofs.Bounded.{bound-small}
use Rattle.tv_frontier.proofs.Next.{stage-of, choices-picked, among-at, pushed-all, pushed-long}
use Rattle.tv_frontier.proofs.Planned.{suffice-next, suffice-last}
use Rattle.tv_frontier.proofs.plan.bounds_before.Goals as goal

pub step_of-requires : goal.step_of-requires
step_of-requires c = record { stage = stage-of c.args.stage.now.web.now c.args.stage.now.d c.args.stage.now.n c.args.stage.now.floor c.args.stage.now.upto c.args.stage.now.t c.requires.span c.requires.corner }

pub loop-k-init : goal.loop-k-init
loop-k-init c = record {
  long = ap length c.new-bounds.ensures.items;
  each = subst (AllByRecursion (IsBound c.args.stage.now.web.now c.args.stage.now.d c.args.stage.now.n)) (sym c.new-bounds.ensures.items) tt;
  suffice = λ q within. absurd (omega arith);
}

pub bound_of-requires-clause-key : goal.bound_of-requires-clause-key
bound_of-requires-clause-key c =
    let keys = choices-picked c.args.stage.now.web.now (is_pending c.args.stage.now.t) c.args.stage.now.d c.deref.result.now c.in_ok-keys.keys.items (c.deref.ensures.value ∙ c.in_ok-step.ensures.pending) c.in_ok-keys.ensures in
    among-at c.in_ok-keys.keys.items (states c.args.stage.now.web.now c.args.stage.now.d c.args.stage.now.t) c.loop-k.k c.index.result.now keys (let e = c.len-k-end.ensures in let h = c.loop-k-test.true in omega arith) c.index.ensures

pub loop-k-preserved : goal.loop-k-preserved
loop-k-preserved c =
    let small = bound-small c.args.stage.now.web.now c.args.stage.now.d c.args.stage.now.n c.args.stage.now.floor c.args.stage.now.upto c.in_ok-bound.bound c.args.stage.now.t (stage-of c.args.stage.now.web.now c.args.stage.now.d c.args.stage.now.n c.args.stage.now.floor c.args.stage.now.upto c.args.stage.now.t c.requires.span c.requires.corner) c.in_ok-bound.ensures.bound in
    let read : to_z w64 (of_z w64 c.in_ok-bound.bound) ≡ c.in_ok-bound.bound = omega (arith, ints) in
    let pushed : c.push.new.self.items ≡ c.loop-k.bounds.items ++ c.in_ok-bound.bound ∷ [] = c.in_ok-push.ensures.items ∙ ap (λ z. c.loop-k.bounds.items ++ z ∷ []) read in
    let within : c.loop-k.k < length c.in_ok-keys.keys.items = (let e = c.len-k-end.ensures in let h = c.loop-k-test.true in omega arith) in
    let key : get_or c.in_ok-keys.keys.items c.loop-k.k [] ≡ c.index.result.now = get_or_default c.in_ok-keys.keys.items c.loop-k.k [] c.index.result.now within ∙ sym c.index.ensures in
    record {
      long = pushed-long c.loop-k.bounds.items c.push.new.self.items c.in_ok-bound.bound c.loop-k.k pushed c.loop-k.invariant.long;
      each = pushed-all (IsBound c.args.stage.now.web.now c.args.stage.now.d c.args.stage.now.n) c.loop-k.bounds.items c.push.new.self.items c.in_ok-bound.bound pushed c.loop-k.invariant.each c.in_ok-bound.ensures.bound;
      suffice = suffice-next c.args.stage.now.web.now c.args.stage.now.d c.args.stage.now.n c.args.stage.now.t c.args.next.now c.in_ok-keys.keys.items c.loop-k.bounds.items c.push.new.self.items c.loop-k.k c.index.result.now c.in_ok-bound.bound pushed c.loop-k.invariant.long key c.in_ok-bound.ensures.suffices c.loop-k.invariant.suffice;
    }

pub returns-clause-bounds : goal.returns-clause-bounds
returns-clause-bounds c =
    let keys = choices-picked c.args.stage.now.web.now (is_pending c.args.stage.now.t) c.args.stage.now.d c.deref.result.now c.in_ok-keys.keys.items (c.deref.ensures.value ∙ c.in_ok-step.ensures.pending) c.in_ok-keys.ensures in
    record {
      one_each = (let e = c.len-k-end.ensures in let h = c.loop-k-test.false in let f = c.loop-k.auto.k-end in let l = c.loop-k.invariant.long in let k = ap length keys in omega arith);
      each = c.loop-k.invariant.each;
    }

pub returns-clause-suffice : goal.returns-clause-suffice
returns-clause-suffice c =
    let keys = choices-picked c.args.stage.now.web.now (is_pending c.args.stage.now.t) c.args.stage.now.d c.deref.result.now c.in_ok-keys.keys.items (c.deref.ensures.value ∙ c.in_ok-step.ensures.pending) c.in_ok-keys.ensures in
    let past : length c.in_ok-keys.keys.items ≤ c.loop-k.k = (let e = c.len-k-end.ensures in let h = c.loop-k-test.false in omega arith) in
    suffice-last c.args.stage.now.web.now c.args.stage.now.d c.args.stage.now.n c.args.stage.now.t c.args.next.now c.in_ok-keys.keys.items c.loop-k.bounds.items c.loop-k.k keys past c.loop-k.invariant.suffice
