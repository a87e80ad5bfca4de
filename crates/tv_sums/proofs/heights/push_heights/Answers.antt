use Rattle.std.proofs.Common.{◌≡◌, ℕ, ◌+◌, ◌-◌, ◌≤◌, suc, min, ap, ◌∙◌, subst, arith}
use Rattle.tv_spec_slices.specs.Slices.{at}
use Rattle.tv_laws_sums.specs.Mixed.{put, lowest, highest, nth}
use Rattle.tv_sums.specs.Keys.{key}
use Rattle.tv_sums.specs.Parts.{IsPart}
use Rattle.tv_sums.proofs.Walked.{lawful, spot, met_in, walk-start, part-start, part-done, IsWalk, walked}
use Rattle.tv_sums.proofs.Round.{round, before-under, Summed, Pushed}
use Rattle.tv_sums.proofs.heights.push_heights.Goals as goal

pub loop-m-init : goal.loop-m-init
loop-m-init g c = λ t slices done e low is fit part old.
    let laws = lawful c.args.legs.now t c.args.plan e in (
      walk-start g.C.Ring.ring c.args.legs.now t c.args.plan c.args.i slices (at c.args.group.now) laws c.requires.some c.empty_row-sum.result c.empty_row-sum.ensures.counts c.empty_row-sum.ensures.reached,
      part-start g.C.Ring.ring c.args.legs.now t c.args.plan c.args.i slices c.args.group.now done laws c.requires.some c.args.next.now.entries old,
    )

-- the bounds are those that the neighbours set
low-is : (h : ℕ → ℕ) (p q low : ℕ) → p ≡ q → low ≡ h (p + 1) → low ≡ lowest h q
low-is h p q low e l = let next : p + 1 ≡ suc p = omega arith in l ∙ (ap h next ∙ ap (λ d. h (suc d)) e)

high-is : (h : ℕ → ℕ) (top p q high own : ℕ) → p ≡ q → own ≡ highest top h p → high ≡ min own top → ((d : ℕ) → h d ≤ top) → high ≡ highest top h q
high-is h top p q high own e o m low = let under = before-under top p h low in same (highest top h p) own o under m ∙ ap (highest top h) e
  where
    same : (b own : ℕ) → own ≡ b → b ≤ top → high ≡ min own top → high ≡ b
    same b own o l m = omega arith

pub loop-m-preserved : goal.loop-m-preserved
loop-m-preserved g c = λ t slices done e low is fit part old.
    let r = g.C.Ring.ring in let legs = c.args.legs.now in let plan = c.args.plan in let i = c.args.i in let h = at c.args.group.now in let m = c.loop-m.m in
    let laws = lawful legs t plan e in
    let before = c.loop-m.invariant t slices done e low is fit part old in
    let at_place = c.place-p.ensures.value in
    let lower = low-is h c.place-p.result (spot plan i) c.at-low.result at_place c.at-low.ensures in
    let upper = high-is h plan.top c.place-p.result (spot plan i) c.min-high.result c.highest.result at_place c.highest.ensures c.min-high.ensures is.low in
    let few : c.at-low.result + m ≤ c.min-high.result = omega (arith, c.loop-m-test.true, c.saturating_sub-m-end.ensures) in
    let few_is = subst (λ v. lowest h (spot plan i) + m ≤ v) upper (subst (λ v. v + m ≤ c.min-high.result) lower few) in
    let height : c.nth.result ≡ met_in plan i h m = c.nth.ensures ∙ (ap (λ v. nth plan.grows v c.min-high.result m) lower ∙ ap (λ v. nth plan.grows (lowest h (spot plan i)) v m) upper) in
    let key_is : c.in_ok-key.key ≡ key (put h (spot plan i) (met_in plan i h m)) plan.n = c.in_ok-key.ensures ∙ (ap (λ p. key (put h p c.nth.result) plan.n) at_place ∙ ap (λ y. key (put h (spot plan i) y) plan.n) height) in
    let summed = subst (λ b. Summed r legs plan i b c.args.table.now.entries c.loop-m.sum c.in_ok-sum.sum) key_is c.in_ok-sum.ensures in
    let pushed : Pushed r legs t plan i slices c.place-p.result c.in_ok-key.key c.in_ok-sum.sum c.loop-m.next.entries c.push_height.new.next.entries = λ done f n. c.in_ok-push_height.ensures t slices done f n in
    let pushed_is = subst (λ b. Pushed r legs t plan i slices (spot plan i) b c.in_ok-sum.sum c.loop-m.next.entries c.push_height.new.next.entries) key_is
    (subst (λ p. Pushed r legs t plan i slices p c.in_ok-key.key c.in_ok-sum.sum c.loop-m.next.entries c.push_height.new.next.entries) at_place pushed) in
    let next : suc m ≡ m + 1 = omega arith in
    subst (λ k. IsWalk r legs t plan i slices h k c.in_ok-sum.sum × IsPart r legs t plan (suc i) slices (walked plan i c.args.group.now k done) c.push_height.new.next.entries) next
    (round r legs t plan i slices c.args.group.now done c.args.table.now.entries c.loop-m.next.entries c.push_height.new.next.entries c.loop-m.sum c.in_ok-sum.sum m laws c.requires.some low is fit part few_is summed pushed_is before.0 before.1)

pub returns : goal.returns
returns g c = λ t slices done e low is fit part old.
    let legs = c.args.legs.now in let plan = c.args.plan in let i = c.args.i in let h = at c.args.group.now in let m = c.loop-m.m in
    let before = c.loop-m.invariant t slices done e low is fit part old in
    let lower = low-is h c.place-p.result (spot plan i) c.at-low.result c.place-p.ensures.value c.at-low.ensures in
    let upper = high-is h plan.top c.place-p.result (spot plan i) c.min-high.result c.highest.result c.place-p.ensures.value c.highest.ensures c.min-high.ensures is.low in
    let all : suc c.min-high.result - c.at-low.result ≤ m = omega (arith, c.loop-m-test.false, c.saturating_sub-m-end.ensures) in
    let all_is = subst (λ v. suc v - lowest h (spot plan i) ≤ m) upper (subst (λ v. suc c.min-high.result - v ≤ m) lower all) in
    part-done g.C.Ring.ring legs t plan i slices c.args.group.now done (lawful legs t plan e) c.requires.some m c.loop-m.next.entries low is all_is before.1
