use Rattle.std.proofs.Common.{◌≡◌, sym, ap, subst, ◌∙◌, length, arith, w64, to_z, of_z}
use Rattle.std.specs.Prelude.{pos, ◌-ℤ◌, ◌≤ℤ◌, ℤ}
use Rattle.std.specs.Int.{int_max}
use Rattle.std.specs.List.{AllByRecursion}
use Rattle.std.proofs.lemmas.Int.{ints, clamps}
use Rattle.tv_spec_partial.specs.Partial.{is_pending}
use Rattle.tv_frontier.specs.Rows.{IsBound}
use Rattle.tv_frontier.specs.Bounds.{AllReach}
use Rattle.tv_frontier.proofs.Next.{choices-picked, pushed-all, pushed-long}
use Rattle.tv_frontier.proofs.Planned.{last-bound}
use Rattle.tv_frontier.proofs.plan.last_bounds.Goals as goal

pub loop-k-init : goal.loop-k-init
loop-k-init c = record {
  long = ap length c.new-bounds.ensures.items;
  each = subst (AllByRecursion (IsBound c.args.stage.now.web.now c.args.stage.now.d c.args.stage.now.n)) (sym c.new-bounds.ensures.items) tt;
  reach = subst (AllReach c.args.stage.now.n) (sym c.new-bounds.ensures.items) tt;
}

pub loop-k-preserved : goal.loop-k-preserved
loop-k-preserved c =
    let is : to_z w64 (of_z w64 c.greater-last.result) ≡ int_max c.args.stage.now.n (c.args.stage.now.floor -ℤ pos 1) = (let v = c.greater-last.ensures.value in let o = c.requires.span.order in let f = c.requires.span.small_low in omega (arith, ints, clamps)) in
    let told = last-bound c.args.stage.now.web.now c.args.stage.now.d c.args.stage.now.n c.args.stage.now.floor c.args.stage.now.upto (to_z w64 (of_z w64 c.greater-last.result)) c.requires.span is in
    record {
      long = pushed-long c.loop-k.bounds.items c.push.new.self.items (to_z w64 (of_z w64 c.greater-last.result)) c.loop-k.k c.in_ok-push.ensures.items c.loop-k.invariant.long;
      each = pushed-all (IsBound c.args.stage.now.web.now c.args.stage.now.d c.args.stage.now.n) c.loop-k.bounds.items c.push.new.self.items (to_z w64 (of_z w64 c.greater-last.result)) c.in_ok-push.ensures.items c.loop-k.invariant.each told.0;
      reach = pushed-all (λ (b : ℤ). c.args.stage.now.n ≤ℤ b) c.loop-k.bounds.items c.push.new.self.items (to_z w64 (of_z w64 c.greater-last.result)) c.in_ok-push.ensures.items c.loop-k.invariant.reach told.1;
    }

pub returns-clause-bounds : goal.returns-clause-bounds
returns-clause-bounds c =
    let keys = choices-picked c.args.stage.now.web.now (is_pending c.args.stage.now.t) c.args.stage.now.d c.deref.result.now c.in_ok-keys.keys.items (c.deref.ensures.value ∙ c.in_ok-flags.ensures) c.in_ok-keys.ensures in
    record {
      one_each = (let e = c.len-k-end.ensures in let h = c.loop-k-test.false in let f = c.loop-k.auto.k-end in let l = c.loop-k.invariant.long in let k = ap length keys in omega arith);
      each = c.loop-k.invariant.each;
    }

pub returns-clause-reach : goal.returns-clause-reach
returns-clause-reach c = c.loop-k.invariant.reach
