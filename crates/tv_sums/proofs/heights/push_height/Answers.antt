use Rattle.std.proofs.Common.{◌≡◌, ℕ, ◌+◌, ◌-◌, ◌≤◌, suc, true, sym, ap, ◌∙◌, subst, arith}
use Rattle.tv_spec_slices.specs.Slices.{at}
use Rattle.tv_sums.specs.Plans.{over_at, left, is_fit}
use Rattle.tv_sums.specs.Parts.{kept_in, ways_in}
use Rattle.tv_slices.specs.Joined.{IsSum}
use Rattle.tv_sums.proofs.Told.{least-beyond, row-sum, tells-empty}
use Rattle.tv_sums.proofs.Parted.{part-stays, part-put}
use Rattle.tv_sums.proofs.heights.push_height.Goals as goal

-- no more costs are kept than there are
most-kept : (k x : ℕ) → suc k - x ≤ suc k
most-kept k x = omega arith

pub returns-then-least-plan : goal.returns-then-least-plan
returns-then-least-plan g c = λ t slices done f n is fit tells long charge part.
    let x = over_at c.args.legs.now c.args.plan c.args.p (at c.args.key c.args.p) in
    let cost : c.over_at-cost.result ≡ x = c.over_at-cost.ensures ∙ ap (over_at c.args.legs.now c.args.plan c.args.p) c.at-y.ensures in
    let most = most-kept c.args.plan.k (left c.args.legs.now c.args.plan (suc c.args.i) (at c.args.key)) in
    let far : kept_in c.args.legs.now c.args.plan (suc c.args.i) c.args.key ≤ c.args.sum.now.least + c.over_at-cost.result = omega (arith, c.saturating_add-least.ensures, c.if-least-plan.true) in
    part-stays g.C.Ring.ring c.args.legs.now t c.args.plan (suc c.args.i) slices done c.args.key c.args.next.now.entries (λ fitting e l.
    charge e ∙ least-beyond g.C.Ring.ring f n (kept_in c.args.legs.now c.args.plan (suc c.args.i) c.args.key) c.args.sum.now x tells long (subst (λ v. kept_in c.args.legs.now c.args.plan (suc c.args.i) c.args.key ≤ c.args.sum.now.least + v) cost far) e l) part

pub returns-then-least-len : goal.returns-then-least-len
returns-then-least-len g c = λ t slices done f n is fit tells long charge part.
    let x = over_at c.args.legs.now c.args.plan c.args.p (at c.args.key c.args.p) in
    let cost : c.over_at-cost.result ≡ x = c.over_at-cost.ensures ∙ ap (over_at c.args.legs.now c.args.plan c.args.p) c.at-y.ensures in
    let next : c.args.i + 1 ≡ suc c.args.i = omega arith in
    let len : c.kept_in-len.result ≡ kept_in c.args.legs.now c.args.plan (suc c.args.i) c.args.key = c.kept_in-len.ensures.value ∙ ap (λ j. kept_in c.args.legs.now c.args.plan j c.args.key) next in
    let near : c.kept_in-len.result ≤ c.args.sum.now.least + c.over_at-cost.result = omega (arith, c.saturating_add-least.ensures, c.if-least-len.true) in
    let far = subst (λ v. kept_in c.args.legs.now c.args.plan (suc c.args.i) c.args.key ≤ c.args.sum.now.least + v) cost (subst (λ v. v ≤ c.args.sum.now.least + c.over_at-cost.result) len near) in
    part-stays g.C.Ring.ring c.args.legs.now t c.args.plan (suc c.args.i) slices done c.args.key c.args.next.now.entries (λ fitting e l.
    charge e ∙ least-beyond g.C.Ring.ring f n (kept_in c.args.legs.now c.args.plan (suc c.args.i) c.args.key) c.args.sum.now x tells long far e l) part

pub returns : goal.returns
returns g c = λ t slices done f n is fit tells long charge part.
    let r = g.C.Ring.ring in
    let x = over_at c.args.legs.now c.args.plan c.args.p (at c.args.key c.args.p) in
    let cost : c.over_at-cost.result ≡ x = c.over_at-cost.ensures ∙ ap (over_at c.args.legs.now c.args.plan c.args.p) c.at-y.ensures in
    let next : c.args.i + 1 ≡ suc c.args.i = omega arith in
    let kept = kept_in c.args.legs.now c.args.plan (suc c.args.i) c.args.key in
    let len : c.kept_in-len.result ≡ kept = c.kept_in-len.ensures.value ∙ ap (λ j. kept_in c.args.legs.now c.args.plan j c.args.key) next in
    let fits : c.is_fit.result ≡ true = cc in
    let fitting = fit ∙ (sym (c.is_fit.ensures ∙ ap (is_fit c.args.legs.now c.args.plan c.args.p) c.at-y.ensures) ∙ fits) in
    let row = c.in_ok-row.row in
    let sum = subst (λ n. IsSum r c.empty_row.result c.args.sum.now x n row) len (subst (λ v. IsSum r c.empty_row.result c.args.sum.now v c.kept_in-len.result row) cost c.in_ok-row.ensures.value) in
    let has = row-sum g.met.C.Ring.laws (λ e. 0) f (ways_in c.args.legs.now t c.args.plan (suc c.args.i) slices c.args.key) kept n kept x c.empty_row.result c.args.sum.now row
    (tells-empty r kept c.empty_row.result c.empty_row.ensures.counts c.empty_row.ensures.reached) tells (omega arith) long sum (λ e l. charge e ∙ omega arith) in
    part-put r c.args.legs.now t c.args.plan (suc c.args.i) slices done c.args.key row c.args.next.now.entries c.insert.new.self.entries is fitting c.in_ok-insert.ensures.updates.0 c.in_ok-insert.ensures.entries has part
