-- The sizes of coefficients and of the terms of the recurrence, by the factors without sign.
--
-- size-add, size-mul     sizes of a sum and of a product of numbers with bounds
-- sum_below-size         the size of a sum of terms with bounds; total_below-size, the sum of the sizes
-- scaled-size            a size times a number
-- power-size             the coefficient of a power of 1 - X is at most that of the power without sign
-- size_of_product        the size of a coefficient
-- sizes_of_terms         the sizes of all terms of the recurrence
-- size_of_katz, sizes_of_factor_terms  the same of Katz's product; factors-rise, whose factors have degrees of at least 1
use Rattle.std.specs.Prelude.{◌≡◌, ℕ, zero, suc, ◌+◌, ◌*◌, ◌<◌, ◌≤◌, ℤ, pos, negsuc, ◌*ℤ◌, neg_ℤ, ◌≤ℤ◌, unsigned_abs, Bool, true, false, ◌&&◌, if◌then◌else◌, List, [], ◌∷◌, map}
use Rattle.std.specs.List.{AllByRecursion}
use Rattle.std.specs.Ordering.{int_eq}
use Rattle.std.proofs.Common.{refl, arith, mul-le-mul, mul-le-mul_left}
use Rattle.std.proofs.Math.IntN.{*ℤ-zero, neg_ℤ-neg_ℤ}
use Rattle.std.proofs.lemmas.Int.{ints, unsigned_abs-mul}
use Rattle.tv_ring.specs.Sums.{total_below}
use Rattle.tv_lemmas.specs.Naturals.{as_natural}
use Rattle.tv_lemmas.proofs.Members.{all-map, all-onto, all-flat_map}
use Rattle.tv_spec_katz.specs.Binomials.{choose, power_sign, binomial, power_at, sum_below}
use Rattle.tv_spec_katz.specs.Places.{Place, place, difference_by, unit, is_zero_class}
use Rattle.tv_spec_katz.specs.Product.{Factor, times, product}
use Rattle.tv_spec_katz.specs.Majorant.{without_sign, absolute_product}
use Rattle.tv_spec_katz.specs.Katz.{Integer, factors_by, factors, factor_bound, katz}
use Rattle.tv_laws_katz.specs.Further.{IsPositive}
use Rattle.tv_laws_katz.proofs.FurtherInteger.{factors-high}
use Rattle.tv_laws_katz.proofs.LargerBound.{positive-all, product-absolute}
use Rattle.tv_laws_katz.proofs.Leading.{IsHigh}
use Rattle.tv_laws_katz.specs.Weights.{IsRising}
use Rattle.tv_laws_katz.specs.Recurrence.{log_of, logs}
use Rattle.tv_laws_katz.specs.Sizes.{log_size, log_sizes, SizeOfProduct, SizesOfTerms, SizeOfKatz, SizesOfFactorTerms}
use Rattle.tv_laws_katz.proofs.Powers.{power_at-negsuc, power_sign-size, choose-more}
use Rattle.tv_laws_katz.proofs.ProductRecurrence.{factor_recurrence}

pub size-mul : (a b x y : ℤ) → pos (unsigned_abs a) ≤ℤ x → pos (unsigned_abs b) ≤ℤ y → pos (unsigned_abs (a *ℤ b)) ≤ℤ (x *ℤ y)
size-mul a b (pos x) (pos y) h k =
    let less : unsigned_abs a * unsigned_abs b ≤ x * y = mul-le-mul (omega (arith, ints)) (omega (arith, ints)) in
    omega (arith, ints, unsigned_abs-mul a b, less)
size-mul a b (negsuc x) y h k = absurd (omega (arith, ints))
size-mul a b (pos x) (negsuc y) h k = absurd (omega (arith, ints))

pub sum_below-size : (f g : ℕ → ℤ) (n : ℕ) → ((k : ℕ) → k < n → pos (unsigned_abs (f k)) ≤ℤ g k) →
    pos (unsigned_abs (sum_below f n)) ≤ℤ sum_below g n
unfolding sum_below
sum_below-size f g zero less = omega (arith, ints)
sum_below-size f g (suc n) less = omega (arith, ints, sum_below-size f g n (λ k h. less k (omega arith)), less n (omega arith))

power-size : (e : ℤ) (k : ℕ) → pos (unsigned_abs (power_at e k)) ≤ℤ power_at (neg_ℤ (pos (unsigned_abs e))) k
unfolding power_at binomial choose
power-size (pos zero) zero = omega (arith, ints)
power-size (pos zero) (suc k) =
    let none : power_sign (suc k) *ℤ pos 0 ≡ pos 0 = *ℤ-zero (power_sign (suc k)) in rw none (omega (arith, ints))
power-size (pos (suc n)) zero = rw (power_at-negsuc n 0) (omega (arith, ints, power_sign-size 0 (pos (choose (suc n) 0))))
power-size (pos (suc n)) (suc k) =
    rw (power_at-negsuc n (suc k)) (omega (arith, ints, power_sign-size (suc k) (pos (choose (suc n) (suc k))), choose-more (suc n) (n + suc k) (suc k) (omega arith)))
power-size (negsuc n) k = rw (power_at-negsuc n k) (omega (arith, ints))

bit-size : (b : Bool) → pos (unsigned_abs (if b then pos 1 else pos 0)) ≤ℤ (if b then pos 1 else pos 0)
bit-size true = omega (arith, ints)
bit-size false = omega (arith, ints)

unit-size : (p : Place) → pos (unsigned_abs (unit p)) ≤ℤ unit p
unfolding unit
unit-size p = bit-size (int_eq p.degree (pos 0) && (is_zero_class p.class && int_eq p.exponent (pos 0)))

pub size_of_product : SizeOfProduct
unfolding product times
size_of_product [] p = unit-size p
size_of_product (f ∷ fs) p =
    sum_below-size _ _ (suc (as_natural p.degree)) (λ k h. size-mul (power_at f.power k) (product fs (difference_by k p f.at)) _ _ (power-size f.power k) (size_of_product fs (difference_by k p f.at)))

pub total_below-size : (f : ℕ → ℕ) (g : ℕ → ℤ) (n : ℕ) → ((k : ℕ) → k < n → pos (f k) ≤ℤ g k) →
    pos (total_below f n) ≤ℤ sum_below g n
unfolding total_below sum_below
total_below-size f g zero less = omega (arith, ints)
total_below-size f g (suc n) less =
    omega (arith, ints, total_below-size f g n (λ k h. less k (omega arith)), less n (omega arith))

-- the factor in front, with and without signs
front-size : (d e : ℤ) → pos 1 ≤ℤ d → pos (unsigned_abs (d *ℤ e)) ≡ d *ℤ neg_ℤ (neg_ℤ (pos (unsigned_abs e)))
front-size (pos d) e h = rw (neg_ℤ-neg_ℤ (pos (unsigned_abs e))) (omega (arith, ints, unsigned_abs-mul (pos d) e))
front-size (negsuc d) e h = absurd (omega (arith, ints))

pub scaled-size : (c n : ℕ) (x y : ℤ) → pos c ≡ x → pos n ≤ℤ y → pos (c * n) ≤ℤ (x *ℤ y)
scaled-size c n x (pos m) e h =
    let less : c * n ≤ c * m = mul-le-mul_left c (omega (arith, ints)) in
    rw (← e) (omega (arith, ints, less))
scaled-size c n x (negsuc m) e h = absurd (omega (arith, ints))

log-size : (D : ℕ) (f : Factor) (P A : Place → ℤ) (p : Place) → IsRising f → ((q : Place) → pos (unsigned_abs (P q)) ≤ℤ A q) →
    pos (log_size D f P p) ≤ℤ log_of D (without_sign f) A p
unfolding log_size log_of
log-size D f P A p rising bound =
    scaled-size _ _ _ _ (front-size f.at.degree f.power rising) (total_below-size _ _ D (λ j h. bound (difference_by (suc j) p f.at)))

logs-size : (D : ℕ) (fs : List Factor) (P A : Place → ℤ) (p : Place) → AllByRecursion IsRising fs →
    ((q : Place) → pos (unsigned_abs (P q)) ≤ℤ A q) → pos (log_sizes D fs P p) ≤ℤ logs D (map without_sign fs) A p
unfolding log_sizes logs
logs-size D [] P A p rising bound = omega (arith, ints)
logs-size D (f ∷ fs) P A p rising bound =
    omega (arith, ints, log-size D f P A p rising.0 bound, logs-size D fs P A p rising.1 bound)

pub sizes_of_terms : SizesOfTerms
sizes_of_terms D fs p rising most =
    let whole = factor_recurrence D (map without_sign fs) p (all-map IsRising IsRising without_sign (λ f h. h) fs rising) most in
    omega (arith, ints, whole, logs-size D fs (product fs) (product (map without_sign fs)) p rising (size_of_product fs))

pub size_of_katz : SizeOfKatz
unfolding katz absolute_product
size_of_katz hs is v n =
    let fs = factors hs (factor_bound hs is v n) is in
    omega (arith, ints, power_sign-size (unsigned_abs n) (product fs (place hs v n)), size_of_product fs (place hs v n))

-- each factor of an integer has the degree of its class
pub factors-rise : (hs : List ℤ) (J : ℕ) (is : List Integer) → AllByRecursion (IsPositive hs) is →
    AllByRecursion IsRising (factors hs J is)
factors-rise hs J is positive = all-flat_map (IsPositive hs) IsRising (λ i. factors_by hs i.genus J i)
    (λ i h. all-onto (IsHigh (pos 1)) IsRising (λ f high. high.rising) (factors_by hs i.genus J i) (factors-high hs i.genus J i (pos 1) refl h h)) is positive

pub sizes_of_factor_terms : SizesOfFactorTerms
sizes_of_factor_terms hs w D J is v n within most low =
    let fs = factors hs J is in
    let whole = sizes_of_terms D fs (place hs v n) (factors-rise hs J is (positive-all hs w is within)) most in
    rw (product-absolute hs w is v n J within low) whole

-- ---- powers and products without sign are at least 0

pub power-up : (m k : ℕ) → pos 0 ≤ℤ power_at (neg_ℤ (pos m)) k
unfolding power_at binomial choose
power-up zero zero = omega (arith, ints)
power-up zero (suc k) = let none = *ℤ-zero (power_sign (suc k)) in omega (arith, ints)
power-up (suc m) k = rw (power_at-negsuc m k) (omega (arith, ints))

pub product-up : (fs : List Factor) (p : Place) → pos 0 ≤ℤ product (map without_sign fs) p
product-up fs p = omega (arith, ints, size_of_product fs p)
