-- Factors of genus 0 with a greater power of y than the weight of a place don't count there.
--
-- less-weight          what is left weighs no more, where what is taken off has a weight of at least 0
-- front-agrees         products that agree at weights of at most m do so with the same factors in front
-- heavy-factor         a factor above the weight of a place changes nothing there
-- factors-heavy        all factors of integers within a slope have a weight of at least 0
-- larger               the product at a place is the same for every J of at least its weight, also of factors that are changed
--                      in all but their places
-- product-katz         so it is Katz's product, up to sign; product-absolute, and the one without signs
use Rattle.std.specs.Prelude.{◌≡◌, ℕ, zero, suc, ◌+◌, ◌-◌, ◌*◌, ◌≤◌, ℤ, pos, negsuc, ◌+ℤ◌, ◌*ℤ◌, ◌≤ℤ◌, ◌<ℤ◌, unsigned_abs, List, [], ◌∷◌, ◌++◌, map}
use Rattle.std.specs.List.{AllByRecursion}
use Rattle.std.proofs.Common.{refl, sym, ap, arith, ◌∙◌, mul-le-mul_left}
use Rattle.std.proofs.Math.IntN.{*ℤ-zero}
use Rattle.std.proofs.lemmas.Int.{ints}
use Rattle.std.proofs.lemmas.List.{map-append, map-id}
use Rattle.tv_lemmas.proofs.Members.{all-onto, all-append, all-map, all-flat_map}
use Rattle.tv_lemmas.proofs.Signs.{mul-nonneg-nonneg}
use Rattle.tv_lemmas.specs.Naturals.{as_natural}
use Rattle.tv_spec_plane.specs.Web.{degree_of}
use Rattle.tv_spec_katz.specs.Binomials.{power_sign}
use Rattle.tv_spec_katz.specs.Places.{Place, place, difference_by}
use Rattle.tv_spec_katz.specs.Product.{Factor, product}
use Rattle.tv_spec_katz.specs.Katz.{Integer, factor_at, genus_zero, higher_below, factors_by, factors, greatest_genus, factor_bound, katz}
use Rattle.tv_spec_katz.specs.Majorant.{without_sign, absolute_product}
use Rattle.tv_laws_katz.specs.Sizes.{AbsoluteIsProduct}
use Rattle.tv_laws_katz.specs.Further.{IsPositive}
use Rattle.tv_laws_katz.specs.Weights.{weight, IsHeavy, IsWithinSlope, KatzIsProduct, LargerFactors, VanishesBySlope}
use Rattle.tv_laws_katz.proofs.Differences.{difference_by-weight}
use Rattle.tv_lemmas.proofs.Multiplied.{suc-times}
use Rattle.tv_laws_katz.proofs.Outside.{below-weight}
use Rattle.tv_laws_katz.proofs.Units.{times-same, times-first}

pub less-weight : (w k : ℕ) (p x : Place) → pos 0 ≤ℤ weight w x → weight w (difference_by k p x) ≤ℤ weight w p
less-weight w k p x heavy =
    omega (arith, ints, difference_by-weight w k p x, mul-nonneg-nonneg (pos k) (weight w x) (omega (arith, ints)) heavy)

abbrev AgreeUpTo : ℕ → ℤ → List Factor → List Factor → Type 0
AgreeUpTo w m gs hs = (p : Place) → weight w p ≤ℤ m → product gs p ≡ product hs p

pub front-agrees : (w : ℕ) (m : ℤ) (fs gs hs : List Factor) → AllByRecursion (IsHeavy w) fs → AgreeUpTo w m gs hs →
    AgreeUpTo w m (fs ++ gs) (fs ++ hs)
unfolding product
front-agrees w m [] gs hs heavy same p h = same p h
front-agrees w m (f ∷ fs) gs hs heavy same p h = times-same (as_natural p.degree) f (product (fs ++ gs)) (product (fs ++ hs)) p
    (λ k l. front-agrees w m fs gs hs heavy.1 same (difference_by k p f.at) (omega (arith, ints, less-weight w k p f.at heavy.0)))

pub heavy-factor : (w : ℕ) (f : Factor) (fs : List Factor) → IsHeavy w f → AllByRecursion (IsHeavy w) fs → (p : Place) →
    weight w p <ℤ weight w f.at → product (f ∷ fs) p ≡ product fs p
unfolding product
heavy-factor w f fs here heavy p less = times-first (as_natural p.degree) f (product fs) p (λ k h.
    below-weight w fs heavy (difference_by (suc k) p f.at) (omega (arith, ints, difference_by-weight w (suc k) p f.at, suc-times k (weight w f.at), mul-nonneg-nonneg (pos k) (weight w f.at) (omega (arith, ints)) here)))

-- the weight of a factor of genus 0 is at least its power of y
zero-heavy : (hs : List ℤ) (w J : ℕ) (i : Integer) → IsWithinSlope hs w i → AllByRecursion (IsHeavy w) (genus_zero hs J i)
zero-heavy hs w zero i within = tt
zero-heavy hs w (suc J) i within =
    (omega (arith, ints, mul-nonneg-nonneg (pos w) (degree_of hs i.class) (omega (arith, ints)) (omega (arith, ints, within.positive))), zero-heavy hs w J i within)

higher-heavy : (hs : List ℤ) (w n : ℕ) (i : Integer) → IsWithinSlope hs w i → n ≤ 2 * i.genus - 1 →
    AllByRecursion (IsHeavy w) (higher_below hs n i)
higher-heavy hs w zero i within h = tt
higher-heavy hs w (suc k) i within h = (omega (arith, ints, within.slope), higher-heavy hs w k i within (omega arith))

one-heavy : (hs : List ℤ) (w g J : ℕ) (i : Integer) → i.genus ≡ g → IsWithinSlope hs w i →
    AllByRecursion (IsHeavy w) (factors_by hs g J i)
one-heavy hs w zero J i e within = zero-heavy hs w J i within
one-heavy hs w (suc g) J i e within = higher-heavy hs w (2 * i.genus - 1) i within (omega arith)

pub factors-heavy : (hs : List ℤ) (w J : ℕ) (is : List Integer) → AllByRecursion (IsWithinSlope hs w) is →
    AllByRecursion (IsHeavy w) (factors hs J is)
factors-heavy hs w J is within =
    all-flat_map (IsWithinSlope hs w) (IsHeavy w) (λ i. factors_by hs i.genus J i) (λ i h. one-heavy hs w i.genus J i refl h) is within

-- the same of factors that are changed in all but their places
abbrev Keeps : (Factor → Factor) → Type 0
Keeps h = (f : Factor) → (h f).at ≡ f.at

kept-heavy : (h : Factor → Factor) → Keeps h → (w : ℕ) (f : Factor) → IsHeavy w f → IsHeavy w (h f)
kept-heavy h keeps w f heavy = let same = ap (weight w) (keeps f) in omega (arith, ints, same)

all-kept : (h : Factor → Factor) → Keeps h → (w : ℕ) (fs : List Factor) → AllByRecursion (IsHeavy w) fs →
    AllByRecursion (IsHeavy w) (map h fs)
all-kept h keeps w fs heavy = all-map (IsHeavy w) (IsHeavy w) h (kept-heavy h keeps w) fs heavy

more-by : (h : Factor → Factor) → Keeps h → (hs : List ℤ) (w g J : ℕ) (i : Integer) (gs : List Factor) → i.genus ≡ g →
    IsWithinSlope hs w i → AllByRecursion (IsHeavy w) (map h (factors_by hs g J i) ++ gs) →
    AgreeUpTo w (pos J) (map h (factors_by hs g (suc J) i) ++ gs) (map h (factors_by hs g J i) ++ gs)
more-by h keeps hs w zero J i gs e within heavy p low =
    let next = factor_at hs i (pos (suc J)) (pos (suc J) *ℤ i.value) in
    let rises : pos 0 ≤ℤ (pos w *ℤ degree_of hs i.class) = mul-nonneg-nonneg (pos w) (degree_of hs i.class) (omega (arith, ints)) (omega (arith, ints, within.positive)) in
    let same = ap (weight w) (keeps next) in
    heavy-factor w (h next) (map h (genus_zero hs J i) ++ gs) (omega (arith, ints, same)) heavy p (omega (arith, ints, same))
more-by h keeps hs w (suc g) J i gs e within heavy p low = refl

one-more : (h : Factor → Factor) → Keeps h → (hs : List ℤ) (w J : ℕ) (is : List Integer) →
    AllByRecursion (IsWithinSlope hs w) is → AgreeUpTo w (pos J) (map h (factors hs (suc J) is)) (map h (factors hs J is))
one-more h keeps hs w J [] within p low = refl
one-more h keeps hs w J (i ∷ is) within p low =
    let here = all-kept h keeps w (factors_by hs i.genus (suc J) i) (one-heavy hs w i.genus (suc J) i refl within.0) in
    let now = all-kept h keeps w (factors_by hs i.genus J i) (one-heavy hs w i.genus J i refl within.0) in
    let rest = all-kept h keeps w (factors hs J is) (factors-heavy hs w J is within.1) in
    ap (λ fs. product fs p) (map-append h (factors_by hs i.genus (suc J) i) (factors hs (suc J) is)) ∙
    (front-agrees w (pos J) (map h (factors_by hs i.genus (suc J) i)) (map h (factors hs (suc J) is)) (map h (factors hs J is)) here (one-more h keeps hs w J is within.1) p low ∙
    (more-by h keeps hs w i.genus J i (map h (factors hs J is)) refl within.0 (all-append (IsHeavy w) (map h (factors_by hs i.genus J i)) (map h (factors hs J is)) now rest) p low ∙
    ap (λ fs. product fs p) (sym (map-append h (factors_by hs i.genus J i) (factors hs J is)))))

larger-by : (h : Factor → Factor) → Keeps h → (hs : List ℤ) (w J d K : ℕ) (is : List Integer) →
    AllByRecursion (IsWithinSlope hs w) is → K ≡ J + d → (p : Place) → weight w p ≤ℤ pos J →
    product (map h (factors hs K is)) p ≡ product (map h (factors hs J is)) p
larger-by h keeps hs w J zero K is within e p low =
    let same : K ≡ J = omega (arith, e) in ap (λ n. product (map h (factors hs n is)) p) same
larger-by h keeps hs w J (suc d) zero is within e p low = absurd (omega (arith, e))
larger-by h keeps hs w J (suc d) (suc K) is within e p low = one-more h keeps hs w K is within p (omega (arith, ints)) ∙
    larger-by h keeps hs w J d K is within (omega arith) p low

-- two bounds, each of at least the weight
pub larger : (h : Factor → Factor) → Keeps h → (hs : List ℤ) (v w J K : ℕ) (is : List Integer) →
    AllByRecursion (IsWithinSlope hs v) is → AllByRecursion (IsWithinSlope hs w) is → (p : Place) → weight v p ≤ℤ pos J →
    weight w p ≤ℤ pos K → product (map h (factors hs J is)) p ≡ product (map h (factors hs K is)) p
larger h keeps hs v w J K is within also p low less =
    sym (larger-by h keeps hs v J K (J + K) is within refl p low) ∙ larger-by h keeps hs w K J (J + K) is also (omega arith) p less

times-at-least : (w : ℕ) (z : ℤ) → pos 1 ≤ℤ z → pos w ≤ℤ (pos w *ℤ z)
times-at-least w (pos d) h =
    let many : w * 1 ≤ w * d = mul-le-mul_left w (omega (arith, ints)) in
    omega (arith, ints, many)
times-at-least w (negsuc d) h = absurd (omega (arith, ints))

-- the greatest genus is a slope for all
pub slope-greatest : (hs : List ℤ) (w : ℕ) (is : List Integer) → greatest_genus is ≤ w → AllByRecursion (IsPositive hs) is →
    AllByRecursion (IsWithinSlope hs w) is
slope-greatest hs w [] h positive = tt
slope-greatest hs w (i ∷ is) h positive =
    (record { positive = positive.0; slope = omega (arith, ints, times-at-least w (degree_of hs i.class) positive.0) }, slope-greatest hs w is (omega arith) positive.1)

pub positive-all : (hs : List ℤ) (w : ℕ) (is : List Integer) → AllByRecursion (IsWithinSlope hs w) is →
    AllByRecursion (IsPositive hs) is
positive-all hs w is within = all-onto (IsWithinSlope hs w) (IsPositive hs) (λ i h. h.positive) is within

weight-bound : (w : ℕ) (n z : ℤ) → (n +ℤ (pos w *ℤ z)) ≤ℤ pos (unsigned_abs n + w * as_natural z)
weight-bound w (pos n) (pos z) = omega (arith, ints)
weight-bound w (negsuc n) (pos z) = omega (arith, ints)
weight-bound w (pos n) (negsuc z) = omega (arith, ints)
weight-bound w (negsuc n) (negsuc z) = omega (arith, ints)

bound-low : (hs : List ℤ) (is : List Integer) (v : List ℤ) (n : ℤ) →
    weight (greatest_genus is) (place hs v n) ≤ℤ pos (factor_bound hs is v n)
bound-low hs is v n = weight-bound (greatest_genus is) n (degree_of hs v)

-- at the bound of the definition, and at any that is at least the weight
bound-larger : (h : Factor → Factor) → Keeps h → (hs : List ℤ) (w : ℕ) (is : List Integer) (v : List ℤ) (n : ℤ) (J : ℕ) →
    AllByRecursion (IsWithinSlope hs w) is → weight w (place hs v n) ≤ℤ pos J →
    product (map h (factors hs (factor_bound hs is v n) is)) (place hs v n) ≡ product (map h (factors hs J is)) (place hs v n)
bound-larger h keeps hs w is v n J within low =
    larger h keeps hs (greatest_genus is) w (factor_bound hs is v n) J is (slope-greatest hs (greatest_genus is) is (omega arith) (positive-all hs w is within)) within (place hs v n) (bound-low hs is v n) low

pub product-katz : KatzIsProduct
unfolding katz
product-katz hs w is v n J within low = ap (λ z. power_sign (unsigned_abs n) *ℤ z) (
    ap (λ fs. product fs (place hs v n)) (sym (map-id (factors hs (factor_bound hs is v n) is))) ∙
    (bound-larger (λ f. f) (λ f. refl) hs w is v n J within low ∙
    ap (λ fs. product fs (place hs v n)) (map-id (factors hs J is))))

pub product-absolute : AbsoluteIsProduct
unfolding absolute_product
product-absolute hs w is v n J within low = bound-larger without_sign (λ f. refl) hs w is v n J within low

pub larger_factors : LargerFactors
larger_factors hs is v n J positive h =
    product-katz hs (greatest_genus is) is v n J (slope-greatest hs (greatest_genus is) is (omega arith) positive)
    (omega (arith, ints, bound-low hs is v n))

pub vanishes_by_slope : VanishesBySlope
unfolding katz
vanishes_by_slope hs w is v n within below =
    ap (λ z. power_sign (unsigned_abs n) *ℤ z) (below-weight w (factors hs (factor_bound hs is v n) is) (factors-heavy hs w (factor_bound hs is v n) is within) (place hs v n) below) ∙ *ℤ-zero (power_sign (unsigned_abs n))
