-- The recurrence of a product of factors.
--
-- times-add         a factor times the sum of two series
-- times-logs        a factor times the sum over other factors is that sum of the product
-- logs-same         the sum over factors of series that agree at degrees of at most D
-- factor_recurrence the recurrence of a product; factor_division, from which the coefficient is read off
use Rattle.std.specs.Prelude.{◌≡◌, ℕ, suc, ℤ, pos, ◌+ℤ◌, ◌-ℤ◌, ◌*ℤ◌, neg_ℤ, ◌≤ℤ◌, List, [], ◌∷◌}
use Rattle.std.specs.List.{AllByRecursion}
use Rattle.std.proofs.Common.{refl, sym, ap, arith, ◌∙◌, inl, inr}
use Rattle.std.proofs.Math.IntN.{*ℤ-zero, zero-*ℤ}
use Rattle.std.proofs.lemmas.Int.{ints}
use Rattle.tv_lemmas.proofs.Integers.{mul-add, mul-sub}
use Rattle.tv_lemmas.proofs.Signs.{sign, mul-zero}
use Rattle.tv_spec_katz.specs.Binomials.{power_at, sum_below}
use Rattle.tv_spec_katz.specs.Places.{Place, difference_by, unit}
use Rattle.tv_spec_katz.specs.Product.{Factor, times, product}
use Rattle.tv_laws_katz.specs.Weights.{IsRising}
use Rattle.tv_laws_katz.specs.Recurrence.{log_of, logs, FactorRecurrence, FactorDivision}
use Rattle.tv_laws_katz.proofs.BelowSums.{sum_below-same, sum_below-none, sum_below-add, sum_below-scale, sum_below-swap}
use Rattle.tv_laws_katz.proofs.Differences.{difference_by-swap, difference_by-lower}
use Rattle.tv_laws_katz.proofs.Logarithms.{theta, one_factor}
use Rattle.tv_lemmas.proofs.Multiplied.{mul-middle}
use Rattle.tv_laws_katz.proofs.Units.{unit-none, times-same, product-below, product-longer}

pub times-add : (D : ℕ) (f : Factor) (P Q : Place → ℤ) (p : Place) →
    times D f (λ q. P q +ℤ Q q) p ≡ times D f P p +ℤ times D f Q p
unfolding times
times-add D f P Q p =
    sum_below-same _ _ (suc D) (λ k h. mul-add (power_at f.power k) (P (difference_by k p f.at)) (Q (difference_by k p f.at))) ∙
    sum_below-add (λ k. power_at f.power k *ℤ P (difference_by k p f.at)) (λ k. power_at f.power k *ℤ Q (difference_by k p f.at)) (suc D)

times-none : (D : ℕ) (f : Factor) (p : Place) → times D f (λ q. pos 0) p ≡ pos 0
unfolding times
times-none D f p = sum_below-none _ (suc D) (λ k h. *ℤ-zero (power_at f.power k))

-- the two sums are exchanged
times-sums : (D E : ℕ) (f g : Factor) (P : Place → ℤ) (p : Place) →
    times D f (λ q. sum_below (λ j. P (difference_by (suc j) q g.at)) E) p ≡ sum_below (λ j. times D f P (difference_by (suc j) p g.at)) E
unfolding times
times-sums D E f g P p =
    sum_below-same _ _ (suc D) (λ k h. sum_below-scale (power_at f.power k) (λ j. P (difference_by (suc j) (difference_by k p f.at) g.at)) E) ∙
    (sum_below-swap (λ k j. power_at f.power k *ℤ P (difference_by (suc j) (difference_by k p f.at) g.at)) (suc D) E ∙
    sum_below-same _ _ E (λ j h. sum_below-same _ _ (suc D) (λ k l. ap (λ q. power_at f.power k *ℤ P q) (difference_by-swap (suc j) k p f.at g.at))))

times-scale : (D : ℕ) (f : Factor) (c : ℤ) (P : Place → ℤ) (p : Place) → times D f (λ q. c *ℤ P q) p ≡ c *ℤ times D f P p
unfolding times
times-scale D f c P p =
    sum_below-same _ _ (suc D) (λ k h. mul-middle (power_at f.power k) c (P (difference_by k p f.at))) ∙
    sym (sum_below-scale c (λ k. power_at f.power k *ℤ P (difference_by k p f.at)) (suc D))

times-log : (D E : ℕ) (f g : Factor) (P : Place → ℤ) (p : Place) → times D f (log_of E g P) p ≡ log_of E g (times D f P) p
unfolding log_of
times-log D E f g P p =
    let c = g.at.degree *ℤ neg_ℤ g.power in
    times-scale D f c (λ q. sum_below (λ j. P (difference_by (suc j) q g.at)) E) p ∙ ap (λ z. c *ℤ z) (times-sums D E f g P p)

pub times-logs : (D E : ℕ) (f : Factor) (gs : List Factor) (P : Place → ℤ) (p : Place) →
    times D f (logs E gs P) p ≡ logs E gs (times D f P) p
unfolding logs
times-logs D E f [] P p = times-none D f p
times-logs D E f (g ∷ gs) P p = times-add D f (log_of E g P) (logs E gs P) p ∙
    (ap (λ z. z +ℤ times D f (logs E gs P) p) (times-log D E f g P p) ∙ ap (λ z. log_of E g (times D f P) p +ℤ z) (times-logs D E f gs P p))

pub log-same : (D E : ℕ) (f : Factor) (P Q : Place → ℤ) (p : Place) → IsRising f → p.degree ≤ℤ pos D →
    ((q : Place) → q.degree ≤ℤ pos D → P q ≡ Q q) → log_of E f P p ≡ log_of E f Q p
unfolding log_of
log-same D E f P Q p rising most same =
    ap (λ z. (f.at.degree *ℤ neg_ℤ f.power) *ℤ z) (sum_below-same _ _ E (λ j h. same (difference_by (suc j) p f.at) (omega (arith, ints, difference_by-lower (suc j) p f.at rising))))

pub logs-same : (D E : ℕ) (fs : List Factor) (P Q : Place → ℤ) (p : Place) → AllByRecursion IsRising fs → p.degree ≤ℤ pos D →
    ((q : Place) → q.degree ≤ℤ pos D → P q ≡ Q q) → logs E fs P p ≡ logs E fs Q p
unfolding logs
logs-same D E [] P Q p rising most same = refl
logs-same D E (f ∷ fs) P Q p rising most same =
    omega (arith, ints, log-same D E f P Q p rising.0 most same, logs-same D E fs P Q p rising.1 most same)

nothing : (d x : ℤ) → x ≡ pos 0 → d *ℤ x ≡ pos 0
nothing d x e = rw e (*ℤ-zero d)

-- the unit has the degree 0
unit-theta : (p : Place) → theta unit p ≡ pos 0
unit-theta p = elim (sign p.degree) [
  | inl less ↦ nothing p.degree (unit p) (unit-none p (λ is. absurd (omega (arith, ints, is.degree))))
  | inr (inl same) ↦ ap (λ d. d *ℤ unit p) same ∙ zero-*ℤ (unit p)
  | inr (inr more) ↦ nothing p.degree (unit p) (unit-none p (λ is. absurd (omega (arith, ints, is.degree))))
]

pub factor_recurrence : FactorRecurrence
unfolding product logs
factor_recurrence D [] p rising most = unit-theta p
factor_recurrence D (f ∷ fs) p rising most =
    let P = product fs in
    let T = times D f P in
    let step = product-longer D f fs in
    ap (λ z. p.degree *ℤ z) (step p rising.0 most) ∙
    (one_factor D f P p (product-below fs) rising.0 most ∙
    (ap (λ z. z +ℤ log_of D f T p) (
    times-same D f (theta P) (logs D fs P) p (λ k h. factor_recurrence D fs (difference_by k p f.at) rising.1 (omega (arith, ints, difference_by-lower k p f.at rising.0))) ∙
    (times-logs D D f fs P p ∙ logs-same D D fs T (product (f ∷ fs)) p rising.1 most (λ q h. sym (step q rising.0 h)))) ∙
    omega (arith, ints, log-same D D f T (product (f ∷ fs)) p rising.0 most (λ q h. sym (step q rising.0 h)))))

-- a positive factor is taken off both sides
pub cancelled : (d x y : ℤ) → pos 1 ≤ℤ d → d *ℤ x ≡ d *ℤ y → x ≡ y
cancelled d x y h e =
    let none : d *ℤ (x -ℤ y) ≡ pos 0 = omega (arith, ints, mul-sub d x y) in
    let apart = mul-zero d (x -ℤ y) (omega (arith, ints)) none in
    omega (arith, ints, apart)

pub factor_division : FactorDivision
factor_division D fs p x rising least most e =
    cancelled p.degree x (product fs p) least (e ∙ sym (factor_recurrence D fs p rising most))
