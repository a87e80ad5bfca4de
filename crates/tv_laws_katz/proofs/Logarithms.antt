-- The recurrence of one factor times a series, and of a product of factors.
--
-- theta P p         == degree times P, at the place p
-- counted D f P p   == the factor times the series, each power k of X counted k times
-- theta-times       degree times a product: the product with degree times the series, and the degree of X times the count
-- counted-step      the count at p by that at p - X
-- one_factor        the recurrence of one factor times a series
-- times-logs        a factor times the sum over other factors is that sum of the product
-- recurrence        the recurrence of a product
use Rattle.std.specs.Prelude.{◌≡◌, ℕ, zero, suc, ℤ, pos, ◌+ℤ◌, ◌-ℤ◌, ◌*ℤ◌, neg_ℤ, ◌≤ℤ◌, ◌<ℤ◌}
use Rattle.std.proofs.Common.{sym, ap, arith, ◌∙◌}
use Rattle.std.proofs.Math.IntN.{*ℤ-zero, zero-*ℤ}
use Rattle.std.proofs.lemmas.Int.{ints}
use Rattle.tv_lemmas.proofs.Integers.{diff_of, diffs, diff-same, mul-add}
use Rattle.tv_spec_katz.specs.Binomials.{power_at, sum_below}
use Rattle.tv_spec_katz.specs.Places.{Place, difference, difference_by}
use Rattle.tv_spec_katz.specs.Product.{Factor, times}
use Rattle.tv_laws_katz.specs.Weights.{IsRising}
use Rattle.tv_laws_katz.specs.Recurrence.{log_of}
use Rattle.tv_laws_katz.proofs.BelowSums.{sum_below-same, sum_below-none, sum_below-add, sum_below-scale, sum_below-front, sum_below-last}
use Rattle.tv_laws_katz.proofs.Differences.{difference_by-last, difference_by-degree, difference_by-none, difference_by-lower, difference_by-used}
use Rattle.tv_lemmas.proofs.Multiplied.{mul-mul}
use Rattle.tv_laws_katz.proofs.Powers.{power_at-next}
use Rattle.tv_laws_katz.proofs.Units.{left-below}

abbrev pub theta : (Place → ℤ) → Place → ℤ
theta P p = p.degree *ℤ P p

abbrev term : Factor → (Place → ℤ) → Place → ℕ → ℤ
term f P p k = power_at f.power k *ℤ P (difference_by k p f.at)

abbrev counted : ℕ → Factor → (Place → ℤ) → Place → ℤ
counted D f P p = sum_below (λ k. pos k *ℤ term f P p k) (suc D)

-- a series without coefficients at degrees below 0
abbrev pub IsRisingSeries : (Place → ℤ) → Type 0
IsRisingSeries P = (q : Place) → q.degree <ℤ pos 0 → P q ≡ pos 0

split-degree : (q k d a y : ℤ) → (q +ℤ (k *ℤ d)) *ℤ (a *ℤ y) ≡ (a *ℤ (q *ℤ y)) +ℤ (d *ℤ (k *ℤ (a *ℤ y)))
split-degree q k d a y =
    let r = diff_of q in let s = diff_of k in let t = diff_of d in let u = diff_of a in let v = diff_of y in
    rw (r.2, s.2, t.2, u.2, v.2) (simp diffs (diff-same _ _ _ _ (omega arith)))

theta-term : (f : Factor) (P : Place → ℤ) (p : Place) (k : ℕ) →
    p.degree *ℤ term f P p k ≡ term f (theta P) p k +ℤ (f.at.degree *ℤ (pos k *ℤ term f P p k))
theta-term f P p k =
    let whole : p.degree ≡ (difference_by k p f.at).degree +ℤ (pos k *ℤ f.at.degree) = omega (arith, ints, difference_by-degree k p f.at) in
    ap (λ z. z *ℤ term f P p k) whole ∙ split-degree (difference_by k p f.at).degree (pos k) f.at.degree (power_at f.power k) (P (difference_by k p f.at))

theta-times : (D : ℕ) (f : Factor) (P : Place → ℤ) (p : Place) →
    theta (times D f P) p ≡ times D f (theta P) p +ℤ (f.at.degree *ℤ counted D f P p)
unfolding times
theta-times D f P p =
    sum_below-scale p.degree (term f P p) (suc D) ∙
    (sum_below-same _ _ (suc D) (λ k h. theta-term f P p k) ∙
    (sum_below-add (term f (theta P) p) (λ k. f.at.degree *ℤ (pos k *ℤ term f P p k)) (suc D) ∙
    ap (λ z. sum_below (term f (theta P) p) (suc D) +ℤ z) (sym (sum_below-scale f.at.degree (λ k. pos k *ℤ term f P p k) (suc D)))))

step-apart : (k e a y : ℤ) → ((k -ℤ e) *ℤ a) *ℤ y ≡ (k *ℤ (a *ℤ y)) +ℤ (neg_ℤ e *ℤ (a *ℤ y))
step-apart k e a y =
    let r = diff_of k in let s = diff_of e in let t = diff_of a in let u = diff_of y in
    rw (r.2, s.2, t.2, u.2) (simp diffs (diff-same _ _ _ _ (omega arith)))

-- the term k + 1 at p, by the term k at p - X
next-term : (f : Factor) (P : Place → ℤ) (p : Place) (k : ℕ) →
    pos (suc k) *ℤ term f P p (suc k) ≡ (pos k *ℤ term f P (difference p f.at) k) +ℤ (neg_ℤ f.power *ℤ term f P (difference p f.at) k)
unfolding difference_by
next-term f P p k =
    let y = P (difference_by k (difference p f.at) f.at) in
    sym (mul-mul (pos (suc k)) (power_at f.power (suc k)) y) ∙ (ap (λ z. z *ℤ y) (power_at-next f.power k) ∙ step-apart (pos k) f.power (power_at f.power k) y)

-- where nothing is left, the term is 0
last-term : (D : ℕ) (f : Factor) (P : Place → ℤ) (p : Place) → IsRisingSeries P → IsRising f → p.degree ≤ℤ pos D →
    term f P (difference p f.at) D ≡ pos 0
unfolding difference_by
last-term D f P p none rising most =
    ap (λ z. power_at f.power D *ℤ z) (none (difference_by D (difference p f.at) f.at) (left-below (suc D) p f.at rising (omega (arith, ints)))) ∙
    *ℤ-zero (power_at f.power D)

counted-step : (D : ℕ) (f : Factor) (P : Place → ℤ) (p : Place) → IsRisingSeries P → IsRising f → p.degree ≤ℤ pos D →
    counted D f P p ≡ counted D f P (difference p f.at) +ℤ (neg_ℤ f.power *ℤ times D f P (difference p f.at))
unfolding times
counted-step D f P p none rising most =
    let q = difference p f.at in
    let last = last-term D f P p none rising most in
    let front = sum_below-front (λ k. pos k *ℤ term f P p k) D in
    let steps = sum_below-same _ _ D (λ k h. next-term f P p k) in
    let apart = sum_below-add (λ k. pos k *ℤ term f P q k) (λ k. neg_ℤ f.power *ℤ term f P q k) D in
    let scale = sum_below-scale (neg_ℤ f.power) (term f P q) D in
    let count = sum_below-last (λ k. pos k *ℤ term f P q k) D (ap (λ z. pos D *ℤ z) last ∙ *ℤ-zero (pos D)) in
    let plain = ap (λ z. neg_ℤ f.power *ℤ z) (sum_below-last (term f P q) D last) in
    omega (arith, ints, front, steps, apart, scale, count, plain, zero-*ℤ (term f P p 0))

low-term : (f : Factor) (P : Place → ℤ) (p : Place) (k : ℕ) → IsRisingSeries P → IsRising f → p.degree ≤ℤ pos 0 →
    pos k *ℤ term f P p k ≡ pos 0
low-term f P p zero none rising low = zero-*ℤ (term f P p 0)
low-term f P p (suc k) none rising low =
    ap (λ z. pos (suc k) *ℤ z) (ap (λ z. power_at f.power (suc k) *ℤ z) (none (difference_by (suc k) p f.at) (left-below (suc k) p f.at rising (omega (arith, ints)))) ∙ *ℤ-zero (power_at f.power (suc k))) ∙ *ℤ-zero (pos (suc k))

counted-low : (D : ℕ) (f : Factor) (P : Place → ℤ) (p : Place) → IsRisingSeries P → IsRising f → p.degree ≤ℤ pos 0 →
    counted D f P p ≡ pos 0
counted-low D f P p none rising low = sum_below-none _ (suc D) (λ k h. low-term f P p k none rising low)

counted-steps : (D m : ℕ) (f : Factor) (P : Place → ℤ) (p : Place) → IsRisingSeries P → IsRising f → p.degree ≤ℤ pos D →
    counted D f P p ≡ counted D f P (difference_by m p f.at) +ℤ (neg_ℤ f.power *ℤ sum_below (λ j. times D f P (difference_by (suc j) p f.at)) m)
unfolding sum_below
counted-steps D zero f P p none rising most =
    omega (arith, ints, *ℤ-zero (neg_ℤ f.power), ap (counted D f P) (difference_by-none p f.at))
counted-steps D (suc m) f P p none rising most =
    let q = difference_by m p f.at in
    let before = counted-steps D m f P p none rising most in
    let lower = difference_by-lower m p f.at rising in
    let here = counted-step D f P q none rising (omega (arith, ints)) in
    let next = difference_by-last m p f.at in
    let now = ap (counted D f P) next in
    let also = ap (λ r. neg_ℤ f.power *ℤ times D f P r) next in
    omega (arith, ints, before, here, now, also, mul-add (neg_ℤ f.power) (sum_below (λ j. times D f P (difference_by (suc j) p f.at)) m) (times D f P (difference_by (suc m) p f.at)))

pub one_factor : (D : ℕ) (f : Factor) (P : Place → ℤ) (p : Place) → IsRisingSeries P → IsRising f → p.degree ≤ℤ pos D →
    theta (times D f P) p ≡ times D f (theta P) p +ℤ log_of D f (times D f P) p
unfolding log_of
one_factor D f P p none rising most =
    let s = sum_below (λ j. times D f P (difference_by (suc j) p f.at)) D in
    let whole = counted-steps D D f P p none rising most in
    let nothing = counted-low D f P (difference_by D p f.at) none rising (difference_by-used D p f.at rising most) in
    let count : counted D f P p ≡ neg_ℤ f.power *ℤ s = omega (arith, ints, whole, nothing) in
    theta-times D f P p ∙ ap (λ z. times D f (theta P) p +ℤ z) (ap (λ z. f.at.degree *ℤ z) count ∙ sym (mul-mul f.at.degree (neg_ℤ f.power) s))
