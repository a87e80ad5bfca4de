-- The unit series, and low degrees, where each product of factors is the unit.
--
-- unit-one          1 at class zero, degree 0 and exponent 0; unit-none, 0 elsewhere
-- unit-apart        0 where degree, class or exponent is not 0
-- product-low       at degrees of at most 0 a product is the unit; product-below, at degrees below 0 it is 0
-- times-same        a factor times series that agree at the places that count
-- product-longer    powers of X beyond the degree change nothing
-- natural-most      a whole number up to n is at most n as a natural one; as_natural-is, from 0 on it is that one
use Rattle.std.specs.Prelude.{◌≡◌, ℕ, zero, suc, ◌≤◌, ◌<◌, ℤ, pos, negsuc, ◌*ℤ◌, ◌≤ℤ◌, ◌<ℤ◌, List, [], ◌∷◌, Bool, true, false, ◌&&◌, if◌then◌else◌}
use Rattle.std.proofs.Common.{refl, ap, arith, ◌∙◌, sym}
use Rattle.std.proofs.Math.IntN.{*ℤ-zero}
use Rattle.std.proofs.lemmas.Int.{ints}
use Rattle.std.proofs.lemmas.Bool.Decides.{Decides-int_eq}
use Rattle.tv_lemmas.specs.Naturals.{as_natural}
use Rattle.tv_spec_katz.specs.Binomials.{power_at}
use Rattle.tv_spec_katz.specs.Places.{Place, difference_by, is_zero_class, unit}
use Rattle.tv_spec_katz.specs.Product.{Factor, times, product}
use Rattle.tv_laws_katz.specs.Weights.{IsRising}
use Rattle.tv_laws_katz.proofs.BelowSums.{sum_below-same, sum_below-longer, sum_below-first}
use Rattle.tv_laws_katz.proofs.Differences.{difference_by-degree, taken-below}
use Rattle.tv_lemmas.proofs.Multiplied.{one-mul}
use Rattle.tv_laws_katz.proofs.Powers.{power_at-zero}
use Rattle.tv_lemmas.proofs.Naturals.{as_natural-none, as_natural-is}

pub record IsUnit (p : Place) : Type 0 where
  pub degree : p.degree ≡ pos 0
  pub class : is_zero_class p.class ≡ true
  pub exponent : p.exponent ≡ pos 0

one_by : (a b c : Bool) → a ≡ true → b ≡ true → c ≡ true → (if a && (b && c) then pos 1 else pos 0) ≡ pos 1
one_by a b c e f g = rw (e, f, g) refl

pub unit-one : (p : Place) → IsUnit p → unit p ≡ pos 1
unfolding unit
unit-one p is = one_by _ _ _ ((Decides-int_eq p.degree (pos 0)).1 is.degree) is.class ((Decides-int_eq p.exponent (pos 0)).1 is.exponent)

none_by : (a b c : Bool) → (a ≡ true → b ≡ true → c ≡ true → ⊥) → (if a && (b && c) then pos 1 else pos 0) ≡ pos 0
none_by true true true apart = absurd (apart refl refl refl)
none_by false b c apart = refl
none_by true false c apart = refl
none_by true true false apart = refl

pub unit-none : (p : Place) → (IsUnit p → ⊥) → unit p ≡ pos 0
unfolding unit
unit-none p apart = none_by _ _ _ (λ e f g. apart (record { degree = (Decides-int_eq p.degree (pos 0)).0 e; class = f; exponent = (Decides-int_eq p.exponent (pos 0)).0 g }))

pub times-same : (most : ℕ) (f : Factor) (P Q : Place → ℤ) (p : Place) →
    ((k : ℕ) → k ≤ most → P (difference_by k p f.at) ≡ Q (difference_by k p f.at)) → times most f P p ≡ times most f Q p
unfolding times
times-same most f P Q p same = sum_below-same _ _ (suc most) (λ k h. ap (λ z. power_at f.power k *ℤ z) (same k (omega arith)))

-- where only the first power of X counts
pub times-first : (most : ℕ) (f : Factor) (P : Place → ℤ) (p : Place) →
    ((k : ℕ) → k < most → P (difference_by (suc k) p f.at) ≡ pos 0) → times most f P p ≡ P p
unfolding times difference_by
times-first most f P p none =
    sum_below-first (λ k. power_at f.power k *ℤ P (difference_by k p f.at)) most (λ k h. ap (λ z. power_at f.power (suc k) *ℤ z) (none k h) ∙ *ℤ-zero (power_at f.power (suc k))) ∙
    (ap (λ z. z *ℤ P p) (power_at-zero f.power) ∙ one-mul (P p))

pub product-low : (fs : List Factor) (p : Place) → p.degree ≤ℤ pos 0 → product fs p ≡ unit p
unfolding product
product-low [] p low = refl
product-low (f ∷ fs) p low =
    ap (λ n. times n f (product fs) p) (as_natural-none p.degree low) ∙ (times-first 0 f (product fs) p (λ k h. absurd (omega arith)) ∙ product-low fs p low)

pub product-below : (fs : List Factor) (p : Place) → p.degree <ℤ pos 0 → product fs p ≡ pos 0
product-below fs p below = product-low fs p (omega (arith, ints)) ∙ unit-none p (λ is. absurd (omega (arith, ints, is.degree)))

natural-at : (z : ℤ) (k : ℕ) → suc (as_natural z) ≤ k → z <ℤ pos k
natural-at (pos n) k h = omega (arith, ints)
natural-at (negsuc n) k h = omega (arith, ints)

pub natural-most : (z : ℤ) (n : ℕ) → z ≤ℤ pos n → as_natural z ≤ n
natural-most (pos m) n h = omega (arith, ints)
natural-most (negsuc m) n h = omega (arith, ints)

pub left-below : (k : ℕ) (p x : Place) → pos 1 ≤ℤ x.degree → p.degree <ℤ pos k → (difference_by k p x).degree <ℤ pos 0
left-below k p x rising less = omega (arith, ints, difference_by-degree k p x, taken-below k p.degree x.degree rising less)

pub product-longer : (D : ℕ) (f : Factor) (fs : List Factor) (p : Place) → IsRising f → p.degree ≤ℤ pos D →
    product (f ∷ fs) p ≡ times D f (product fs) p
unfolding product times
product-longer D f fs p rising most =
    sym (sum_below-longer (λ k. power_at f.power k *ℤ product fs (difference_by k p f.at)) (suc (as_natural p.degree)) (suc D) (omega (arith, natural-most p.degree D most)) (λ k l h.
    ap (λ z. power_at f.power k *ℤ z) (product-below fs (difference_by k p f.at) (left-below k p f.at rising (natural-at p.degree k l))) ∙ *ℤ-zero (power_at f.power k)))
