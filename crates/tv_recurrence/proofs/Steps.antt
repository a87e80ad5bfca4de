-- Powers gathered by their steps.
--
-- steps-gathered    what powers with values by their steps add up to, step by step; step-sizes, the sizes, where each step is
--                   there once
use Rattle.std.specs.Prelude.{◌≡◌, ℕ, zero, suc, ◌+◌, ◌*◌, ◌<◌, ◌≤◌, ℤ, pos, neg_ℤ, ◌+ℤ◌, ◌*ℤ◌, unsigned_abs, List, [], ◌∷◌, true, false, nat_eq}
use Rattle.std.specs.List.{AllByRecursion, IsDistinct}
use Rattle.std.proofs.Common.{refl, sym, ap, arith, ◌∙◌, inl, inr, mul-add, add-mul, zero-mul}
use Rattle.std.proofs.Math.IntN.{*ℤ-zero, zero-*ℤ}
use Rattle.std.proofs.lemmas.Int.{ints}
use Rattle.std.proofs.lemmas.Bool.{cases_Bool, cases_lt}
use Rattle.std.proofs.lemmas.Bool.Decides.{nat_tests}
use Rattle.tv_ring.specs.Sums.{total_below}
use Rattle.tv_ring.proofs.Sums.{total_below-more, total_below-same}
use Rattle.tv_lemmas.specs.Sums.{total, sum_of}
use Rattle.tv_lemmas.proofs.Integers.{diff_of, diffs, diff-same}
use Rattle.tv_spec_katz.specs.Binomials.{sum_below}
use Rattle.tv_laws_katz.specs.Logarithm.{when}
use Rattle.tv_laws_katz.proofs.BelowSums.{sum_below-same, sum_below-none, sum_below-add}
use Rattle.tv_laws_katz.proofs.Totals.{when-on, when-off}
use Rattle.tv_recurrence.proofs.NumberSums.{total_below-zero, total_below-add}
use Rattle.tv_recurrence.specs.declared.part.Power.{Power}
use Rattle.tv_recurrence.specs.Products.{power_by, same_step}
use Rattle.tv_lemmas.proofs.Naturals.{nat_eq-tells}
use Rattle.tv_lemmas.proofs.Tests.{eq-on, eq-off}

scaled-split : (d a b y : ℤ) → (d *ℤ neg_ℤ (a +ℤ b)) *ℤ y ≡ ((d *ℤ neg_ℤ a) *ℤ y) +ℤ ((d *ℤ neg_ℤ b) *ℤ y)
scaled-split d a b y =
    let r = diff_of d in let t = diff_of a in let u = diff_of b in let v = diff_of y in
    rw (r.2, t.2, u.2, v.2) (simp diffs (diff-same _ _ _ _ (simp (mul-add, add-mul) (omega arith))))

scaled-none : (d a y : ℤ) → a ≡ pos 0 → (d *ℤ neg_ℤ a) *ℤ y ≡ pos 0
scaled-none d a y e =
    let zero-d : d *ℤ neg_ℤ (pos 0) ≡ pos 0 = *ℤ-zero d in
    rw (e, zero-d) (zero-*ℤ y)

module _ (d : ℤ) (F : ℕ → ℤ) where
  abbrev one : ℕ → ℤ → ℕ → ℤ
  one r e s = (d *ℤ neg_ℤ (when (nat_eq r s) e)) *ℤ F s

  one-none : (r : ℕ) (e : ℤ) (n : ℕ) → n ≤ r → sum_below (one r e) n ≡ pos 0
  one-none r e n h =
      sum_below-none (one r e) n (λ s l. scaled-none d (when (nat_eq r s) e) (F s)
      (when-off (nat_eq r s) e (eq-off r s (λ same. absurd (omega arith)))))

  one-pick : (r : ℕ) (e : ℤ) (n : ℕ) → r < n → sum_below (one r e) n ≡ (d *ℤ neg_ℤ e) *ℤ F r
  unfolding sum_below
  one-pick r e zero h = absurd (omega arith)
  one-pick r e (suc n) h = elim (cases_Bool (nat_eq r n)) [
    | inl on ↦
        let same = nat_eq-tells r n on in
        let here : one r e n ≡ (d *ℤ neg_ℤ e) *ℤ F r =
        ap (λ z. (d *ℤ neg_ℤ z) *ℤ F n) (when-on (nat_eq r n) e on) ∙ ap (λ s. (d *ℤ neg_ℤ e) *ℤ F s) (sym same) in
        omega (arith, ints, one-none r e n (omega arith), here)
    | inr off ↦
        let here = scaled-none d (when (nat_eq r n) e) (F n) (when-off (nat_eq r n) e off) in
        let less : r < n = earlier off in
        omega (arith, ints, one-pick r e n less, here)
  ]
    where
      earlier : nat_eq r n ≡ false → r < n
      earlier off = grind (arith, nat_tests)

  one-all : (r : ℕ) (e : ℤ) (T : ℕ) → ((s : ℕ) → T < s → F s ≡ pos 0) → sum_below (one r e) (suc T) ≡ (d *ℤ neg_ℤ e) *ℤ F r
  one-all r e T far = elim (cases_lt T r) [
    | inr near ↦ one-pick r e (suc T) (omega arith)
    | inl past ↦
        let none = far r (omega arith) in
        one-none r e (suc T) (omega arith) ∙ sym (ap (λ z. (d *ℤ neg_ℤ e) *ℤ z) none ∙ *ℤ-zero (d *ℤ neg_ℤ e))
  ]

  pub steps-gathered : (powers : List Power) (T : ℕ) → ((s : ℕ) → T < s → F s ≡ pos 0) →
      total (λ f. (d *ℤ neg_ℤ f.power) *ℤ F f.step) powers ≡ sum_below (λ s. (d *ℤ neg_ℤ (power_by powers s)) *ℤ F s) (suc T)
  steps-gathered [] T far = sym (sum_below-none _ (suc T) (λ s h. scaled-none d (pos 0) (F s) refl))
  steps-gathered (f ∷ fs) T far =
      let split = sum_below-same _ _ (suc T) (λ s h. scaled-split d (when (nat_eq f.step s) f.power) (power_by fs s) (F s)) in
      let added = sum_below-add (one f.step f.power) (λ s. (d *ℤ neg_ℤ (power_by fs s)) *ℤ F s) (suc T) in
      sym (split ∙ (added ∙ omega (arith, ints, one-all f.step f.power T far, steps-gathered fs T far)))

-- a step that no power has
power_by-none : (r : ℕ) (powers : List Power) → AllByRecursion (λ g. nat_eq r g.step ≡ false) powers → power_by powers r ≡ pos 0
power_by-none r [] apart = refl
power_by-none r (g ∷ gs) apart =
    omega (arith, ints, when-off (nat_eq g.step r) g.power (turned apart.0), power_by-none r gs apart.1)
  where
    turned : nat_eq r g.step ≡ false → nat_eq g.step r ≡ false
    turned h = grind (arith, nat_tests)

module _ (d : ℤ) (F : ℕ → ℕ) where
  abbrev size_one : ℕ → ℤ → ℕ → ℕ
  size_one r e s = unsigned_abs (d *ℤ when (nat_eq r s) e) * F s

  size-zero : (a : ℤ) (n : ℕ) → a ≡ pos 0 → unsigned_abs (d *ℤ a) * n ≡ 0
  size-zero a n e = rw (e, *ℤ-zero d) (zero-mul n)

  size-none : (r : ℕ) (e : ℤ) (n : ℕ) → n ≤ r → total_below (size_one r e) n ≡ 0
  size-none r e n h =
      total_below-zero (size_one r e) n (λ s l. size-zero (when (nat_eq r s) e) (F s)
      (when-off (nat_eq r s) e (eq-off r s (λ same. absurd (omega arith)))))

  size-pick : (r : ℕ) (e : ℤ) (n : ℕ) → r < n → total_below (size_one r e) n ≡ unsigned_abs (d *ℤ e) * F r
  size-pick r e zero h = absurd (omega arith)
  size-pick r e (suc n) h = elim (cases_Bool (nat_eq r n)) [
    | inl on ↦
        let same = nat_eq-tells r n on in
        let here : size_one r e n ≡ unsigned_abs (d *ℤ e) * F r =
        ap (λ z. unsigned_abs (d *ℤ z) * F n) (when-on (nat_eq r n) e on) ∙ ap (λ s. unsigned_abs (d *ℤ e) * F s) (sym same) in
        omega (arith, total_below-more (size_one r e) n, size-none r e n (omega arith), here)
    | inr off ↦
        let here = size-zero (when (nat_eq r n) e) (F n) (when-off (nat_eq r n) e off) in
        let less : r < n = earlier off in
        omega (arith, total_below-more (size_one r e) n, size-pick r e n less, here)
  ]
    where
      earlier : nat_eq r n ≡ false → r < n
      earlier off = grind (arith, nat_tests)

  size-all : (r : ℕ) (e : ℤ) (T : ℕ) → ((s : ℕ) → T < s → F s ≡ 0) →
      total_below (size_one r e) (suc T) ≡ unsigned_abs (d *ℤ e) * F r
  size-all r e T far = elim (cases_lt T r) [
    | inr near ↦ size-pick r e (suc T) (omega arith)
    | inl past ↦
        let none : unsigned_abs (d *ℤ e) * F r ≡ 0 = rw (far r past) (omega arith) in
        size-none r e (suc T) (omega arith) ∙ sym none
  ]

  size-split : (f : Power) (fs : List Power) → AllByRecursion (λ g. same_step f g ≡ false) fs → (s : ℕ) →
      unsigned_abs (d *ℤ power_by (f ∷ fs) s) * F s ≡ size_one f.step f.power s + unsigned_abs (d *ℤ power_by fs s) * F s
  size-split f fs apart s = elim (cases_Bool (nat_eq f.step s)) [
    | inl on ↦
        let none : power_by fs s ≡ pos 0 = ap (power_by fs) (sym (nat_eq-tells f.step s on)) ∙ power_by-none f.step fs apart in
        let whole : power_by (f ∷ fs) s ≡ when (nat_eq f.step s) f.power = omega (arith, ints, none) in
        ap (λ z. unsigned_abs (d *ℤ z) * F s) whole ∙ omega (arith, size-zero (power_by fs s) (F s) none)
    | inr off ↦
        let none = when-off (nat_eq f.step s) f.power off in
        let whole : power_by (f ∷ fs) s ≡ power_by fs s = omega (arith, ints, none) in
        ap (λ z. unsigned_abs (d *ℤ z) * F s) whole ∙ omega (arith, size-zero (when (nat_eq f.step s) f.power) (F s) none)
  ]

  pub step-sizes : (powers : List Power) (T : ℕ) → IsDistinct same_step powers → ((s : ℕ) → T < s → F s ≡ 0) →
      sum_of (λ f. unsigned_abs (d *ℤ f.power) * F f.step) powers ≡
      total_below (λ s. unsigned_abs (d *ℤ power_by powers s) * F s) (suc T)
  unfolding IsDistinct
  step-sizes [] T once far = sym (total_below-zero _ (suc T) (λ s h. size-zero (pos 0) (F s) refl))
  step-sizes (f ∷ fs) T once far =
      let split = total_below-same _ _ (suc T) (λ s h. size-split f fs once.0 s) in
      let added = total_below-add (size_one f.step f.power) (λ s. unsigned_abs (d *ℤ power_by fs s) * F s) (suc T) in
      sym (split ∙ (added ∙ omega (arith, size-all f.step f.power T far, step-sizes fs T once.1 far)))
