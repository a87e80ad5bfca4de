use Rattle.std.proofs.Common.{◌≡◌, ◌-◌, ◌<◌, suc, ℕ, sym, ap, subst, ◌∙◌, length, get_or, arith, w64, to_z, of_z}
use Rattle.std.specs.Prelude.{[], ◌∷◌, ◌++◌, List, ℤ}
use Rattle.std.proofs.lemmas.Int.{ints}
use Rattle.std.proofs.lemmas.List.{get_or_default}
use Rattle.tv_frontier.specs.Bounds.{AllSuffice, AreBounds, IsPlan}
use Rattle.tv_frontier.proofs.Next.{span-read}
use Rattle.tv_frontier.proofs.Planned.{plan-first, plan-next}
use Rattle.tv_frontier.proofs.plan.plan_of.Goals as goal

pub loop-k-init : goal.loop-k-init
loop-k-init c = record {
  some = omega arith;
  plan = plan-first c.args.stage.now.web.now c.args.stage.now.d c.args.stage.now.n c.args.stage.now.t c.push.new.self.items c.in_ok-last_bounds.field-0 (c.in_ok-push.ensures.items ∙ ap (λ ps. ps ++ c.in_ok-last_bounds.field-0 ∷ []) c.new-plan.ensures.items) c.in_ok-last_bounds.ensures.bounds c.in_ok-last_bounds.ensures.reach;
}

pub bounds_before-requires : goal.bounds_before-requires
bounds_before-requires c =
    let n : c.args.stage.now.n ≡ to_z w64 (of_z w64 c.args.stage.now.n) = (let f = c.requires.span.order in omega (arith, ints)) in
    let low : c.args.stage.now.floor ≡ to_z w64 (of_z w64 c.args.stage.now.floor) = (let f = c.requires.span.small_low in omega (arith, ints)) in
    let last : c.args.stage.now.upto ≡ to_z w64 (of_z w64 c.args.stage.now.upto) = (let f = c.requires.span.small_upto in omega (arith, ints)) in
    let within : c.loop-k.k - 1 < length c.loop-k.plan.items = (let l = c.loop-k.invariant.plan.long in let s = c.loop-k.invariant.some in omega arith) in
    let read : get_or c.loop-k.plan.items (c.loop-k.k - 1) [] ≡ c.each.result.now = get_or_default c.loop-k.plan.items (c.loop-k.k - 1) [] c.index.result.now within ∙ sym (c.each.ensures ∙ c.index.ensures) in
    let bounds : AreBounds c.args.stage.now.web.now c.args.stage.now.d c.args.stage.now.n (suc (c.args.stage.now.t - c.loop-k.k)) (get_or c.loop-k.plan.items (c.loop-k.k - 1) []) = c.loop-k.invariant.plan.each (suc (c.args.stage.now.t - c.loop-k.k)) (c.loop-k.k - 1) (let s = c.loop-k.invariant.some in let h = c.loop-k-test.true in omega arith) (let s = c.loop-k.invariant.some in omega arith) in
    record {
      span = span-read c.args.stage.now.web.now c.args.stage.now.d c.args.stage.now.n c.args.stage.now.floor c.args.stage.now.upto (to_z w64 (of_z w64 c.args.stage.now.n)) (to_z w64 (of_z w64 c.args.stage.now.floor)) (to_z w64 (of_z w64 c.args.stage.now.upto)) n low last c.requires.span;
      corner = (let s = c.loop-k.invariant.some in let h = c.loop-k-test.true in let e = c.requires.corners in omega arith);
      next = subst (λ (z : ℤ). AreBounds c.args.stage.now.web.now c.args.stage.now.d z (suc (c.args.stage.now.t - c.loop-k.k)) c.each.result.now) n (subst (AreBounds c.args.stage.now.web.now c.args.stage.now.d c.args.stage.now.n (suc (c.args.stage.now.t - c.loop-k.k))) read bounds);
    }

pub loop-k-preserved : goal.loop-k-preserved
loop-k-preserved c =
    let n : to_z w64 (of_z w64 c.args.stage.now.n) ≡ c.args.stage.now.n = (let f = c.requires.span.order in omega (arith, ints)) in
    let within : c.loop-k.k - 1 < length c.loop-k.plan.items = (let l = c.loop-k.invariant.plan.long in let s = c.loop-k.invariant.some in omega arith) in
    let read : get_or c.loop-k.plan.items (c.loop-k.k - 1) [] ≡ c.each.result.now = get_or_default c.loop-k.plan.items (c.loop-k.k - 1) [] c.index.result.now within ∙ sym (c.each.ensures ∙ c.index.ensures) in
    let bounds : AreBounds c.args.stage.now.web.now c.args.stage.now.d c.args.stage.now.n (c.args.stage.now.t - c.loop-k.k) c.in_ok-bounds.bounds = subst (λ (z : ℤ). AreBounds c.args.stage.now.web.now c.args.stage.now.d z (c.args.stage.now.t - c.loop-k.k) c.in_ok-bounds.bounds) n c.in_ok-bounds.ensures.bounds in
    let suffice : AllSuffice c.args.stage.now.web.now c.args.stage.now.d c.args.stage.now.n (c.args.stage.now.t - c.loop-k.k) (get_or c.loop-k.plan.items (c.loop-k.k - 1) []) c.in_ok-bounds.bounds =
    subst (λ (zs : List ℤ). AllSuffice c.args.stage.now.web.now c.args.stage.now.d c.args.stage.now.n (c.args.stage.now.t - c.loop-k.k) zs c.in_ok-bounds.bounds) (sym read) (subst (λ (z : ℤ). AllSuffice c.args.stage.now.web.now c.args.stage.now.d z (c.args.stage.now.t - c.loop-k.k) c.each.result.now c.in_ok-bounds.bounds) n c.in_ok-bounds.ensures.suffice) in
    record {
      some = omega arith;
      plan = plan-next c.args.stage.now.web.now c.args.stage.now.d c.args.stage.now.n c.args.stage.now.t (c.args.stage.now.t - c.loop-k.k) c.loop-k.k c.loop-k.plan.items c.push-in-loop-k.new.self.items c.in_ok-bounds.bounds c.loop-k.invariant.plan c.in_ok-push-2.ensures.items c.loop-k.invariant.some (let h = c.loop-k-test.true in omega arith) bounds suffice;
    }

pub returns : goal.returns
returns c =
    let last : c.loop-k.k ≡ c.args.stage.now.t = (let h = c.loop-k-test.false in let e = c.loop-k.auto.k-end in let z = c.if-stage-eq0.false in omega arith) in
    subst (λ (k : ℕ). IsPlan c.args.stage.now.web.now c.args.stage.now.d c.args.stage.now.n c.args.stage.now.t k c.loop-k.plan.items) last c.loop-k.invariant.plan
