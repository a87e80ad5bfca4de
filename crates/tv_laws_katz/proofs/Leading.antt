-- Factors of at least the degree of a place change a product there to first order only.
--
-- lead fs p        == the sum over the factors of minus the exponent, where the factor stands at the place
-- IsHigh d f       == the place of the factor has a degree of at least 1 and at least d
-- first_order      the product with such factors in front is that without them and the lead
-- lead-none        the lead is 0 where no factor stands at the place
use Rattle.std.specs.Prelude.{◌≡◌, ℕ, suc, ◌*◌, ◌≤◌, ℤ, pos, negsuc, ◌+ℤ◌, ◌-ℤ◌, ◌*ℤ◌, ◌≤ℤ◌, ◌<ℤ◌, List, [], ◌∷◌, ◌++◌}
use Rattle.std.specs.List.{AllByRecursion}
use Rattle.std.proofs.Common.{refl, ap, arith, ◌∙◌, mul-le-mul_right}
use Rattle.std.proofs.Math.IntN.{*ℤ-zero}
use Rattle.std.proofs.lemmas.Int.{ints}
use Rattle.tv_lemmas.specs.Naturals.{as_natural}
use Rattle.tv_spec_katz.specs.Binomials.{power_at, sum_below}
use Rattle.tv_spec_katz.specs.Places.{Place, difference, difference_by, unit}
use Rattle.tv_spec_katz.specs.Product.{Factor, times, product}
use Rattle.tv_laws_katz.proofs.BelowSums.{sum_below-longer}
use Rattle.tv_lemmas.proofs.Multiplied.{one-mul}
use Rattle.tv_laws_katz.proofs.Powers.{power_at-zero}
use Rattle.tv_laws_katz.proofs.Units.{IsUnit, unit-none, product-low, product-below, product-longer}
use Rattle.tv_laws_katz.proofs.Differences.{difference_by-degree}

abbrev pub lead : List Factor → Place → ℤ
lead [] p = pos 0
lead (f ∷ fs) p = (power_at f.power 1 *ℤ unit (difference p f.at)) +ℤ lead fs p

pub record IsHigh (d : ℤ) (f : Factor) : Type 0 where
  pub rising : pos 1 ≤ℤ f.at.degree
  pub high : d ≤ℤ f.at.degree

-- with powers of X up to the first
two-terms : (f : Factor) (P : Place → ℤ) (p : Place) → times 1 f P p ≡ P p +ℤ (power_at f.power 1 *ℤ P (difference p f.at))
unfolding times sum_below difference_by
two-terms f P p = omega (arith, ints, ap (λ z. z *ℤ P p) (power_at-zero f.power), one-mul (P p))

taken-twice : (k : ℕ) (d e : ℤ) → 2 ≤ k → pos 1 ≤ℤ e → d ≤ℤ e → (d -ℤ (pos k *ℤ e)) <ℤ pos 0
taken-twice k d (pos e) two h high =
    let many : 2 * e ≤ k * e = mul-le-mul_right e two in
    omega (arith, ints, many)
taken-twice k d (negsuc e) two h high = absurd (omega (arith, ints))

no-third : (n : ℕ) (f : Factor) (gs : List Factor) (p : Place) → IsHigh p.degree f →
    times (suc n) f (product gs) p ≡ times 1 f (product gs) p
unfolding times
no-third n f gs p high =
    sum_below-longer (λ k. power_at f.power k *ℤ product gs (difference_by k p f.at)) 2 (suc (suc n)) (omega arith) (λ k l h.
    ap (λ z. power_at f.power k *ℤ z) (product-below gs (difference_by k p f.at) (omega (arith, ints, difference_by-degree k p f.at, taken-twice k p.degree f.at.degree l high.rising high.high))) ∙ *ℤ-zero (power_at f.power k))

natural-above : (z : ℤ) → z ≤ℤ pos (suc (as_natural z))
natural-above (pos n) = omega (arith, ints)
natural-above (negsuc n) = omega (arith, ints)

pub first_order_one : (f : Factor) (gs : List Factor) (p : Place) → IsHigh p.degree f →
    product (f ∷ gs) p ≡ product gs p +ℤ (power_at f.power 1 *ℤ unit (difference p f.at))
first_order_one f gs p high =
    product-longer (suc (as_natural p.degree)) f gs p high.rising (natural-above p.degree) ∙
    (no-third (as_natural p.degree) f gs p high ∙
    (two-terms f (product gs) p ∙ ap (λ z. product gs p +ℤ (power_at f.power 1 *ℤ z)) (product-low gs (difference p f.at) (omega (arith, ints, high.high)))))

pub first_order : (fs gs : List Factor) (p : Place) → AllByRecursion (IsHigh p.degree) fs →
    product (fs ++ gs) p ≡ product gs p +ℤ lead fs p
first_order [] gs p high = omega (arith, ints)
first_order (f ∷ fs) gs p high = omega (arith, ints, first_order_one f (fs ++ gs) p high.0, first_order fs gs p high.1)

pub lead-none : (fs : List Factor) (p : Place) → AllByRecursion (λ f. IsUnit (difference p f.at) → ⊥) fs → lead fs p ≡ pos 0
lead-none [] p apart = refl
lead-none (f ∷ fs) p apart =
    omega (arith, ints, ap (λ z. power_at f.power 1 *ℤ z) (unit-none (difference p f.at) apart.0), *ℤ-zero (power_at f.power 1), lead-none fs p apart.1)
