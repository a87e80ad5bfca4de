-- The sizes of the terms of the recurrence over factors gathered by class and exponent.
--
-- pos-sum_of        a sum of natural numbers is at most one of whole numbers, where each is; pos-total, the same as an equation
-- total_in-size       the size of a gathered exponent is at most the sum of the sizes
-- gathered_sizes    the sizes of all terms
use Rattle.std.specs.Prelude.{◌≡◌, ℕ, zero, suc, ◌*◌, ◌≤◌, ℤ, pos, negsuc, ◌+ℤ◌, ◌*ℤ◌, ◌≤ℤ◌, unsigned_abs, Bool, true, false, List, [], ◌∷◌}
use Rattle.std.specs.List.{AllByRecursion}
use Rattle.std.specs.Ordering.{int_eq}
use Rattle.std.proofs.Common.{refl, ap, arith, ◌∙◌, mul-le-mul_left}
use Rattle.std.proofs.lemmas.Int.{ints, unsigned_abs-mul}
use Rattle.tv_ring.specs.Sums.{total_below}
use Rattle.tv_lemmas.specs.Sums.{total, sum_of}
use Rattle.tv_spec_boxes.specs.Assignments.{same_vector}
use Rattle.tv_spec_katz.specs.Binomials.{sum_below}
use Rattle.tv_spec_katz.specs.Places.{Place, place, difference_by}
use Rattle.tv_spec_katz.specs.Product.{Factor, product}
use Rattle.tv_laws_katz.specs.Weights.{weight, IsHeavy}
use Rattle.tv_laws_katz.specs.Sizes.{log_size, log_sizes}
use Rattle.tv_laws_katz.specs.Logarithm.{when, begins_at}
use Rattle.tv_laws_katz.specs.Gathered.{total_in, power_in, gathered_factor, gathered_size, GatheredSizes}
use Rattle.tv_laws_katz.proofs.GatheredFactors.{gather, IsUpTo, all-heavy, all-rising, left-high, left-beyond}
use Rattle.tv_laws_katz.proofs.TermSizes.{total_below-size, sizes_of_terms}

pos-sum_of : {A : Type 0} (f : A → ℕ) (g : A → ℤ) (xs : List A) → ((x : A) → pos (f x) ≤ℤ g x) → pos (sum_of f xs) ≤ℤ total g xs
pos-sum_of f g [] less = omega (arith, ints)
pos-sum_of f g (x ∷ xs) less = omega (arith, ints, less x, pos-sum_of f g xs less)

pos-total : {A : Type 0} (f : A → ℕ) (g : A → ℤ) (xs : List A) → ((x : A) → pos (f x) ≡ g x) → pos (sum_of f xs) ≡ total g xs
pos-total f g [] same = refl
pos-total f g (x ∷ xs) same = omega (arith, ints, same x, pos-total f g xs same)

when-size : (a b : Bool) (x : ℤ) → pos (unsigned_abs (when a (when b x))) ≡ when a (when b (pos (unsigned_abs x)))
when-size true true x = refl
when-size true false x = refl
when-size false b x = refl

total-size_of : {A : Type 0} (f g : A → ℤ) (xs : List A) → ((x : A) → pos (unsigned_abs (f x)) ≡ g x) →
    pos (unsigned_abs (total f xs)) ≤ℤ total g xs
total-size_of f g [] same = omega (arith, ints)
total-size_of f g (x ∷ xs) same = omega (arith, ints, same x, total-size_of f g xs same)

-- the size of an exponent
abbrev pub power_size : Factor → ℤ
power_size f = pos (unsigned_abs f.power)

total_in-size : (fs : List Factor) (B : List ℤ) (m : ℤ) → pos (unsigned_abs (power_in fs B m)) ≤ℤ total_in power_size fs B m
unfolding power_in
total_in-size fs B m = total-size_of _ _ fs (λ f. when-size (same_vector f.at.class B) (int_eq f.at.exponent m) f.power)

-- without the exponent: |degree| * (|P (p - X)| + ..)
abbrev size_at : ℕ → (Place → ℤ) → Place → Place → ℕ
size_at D P p x = unsigned_abs x.degree * total_below (λ j. unsigned_abs (P (difference_by (suc j) p x))) D

size-linear : (D : ℕ) (P : Place → ℤ) (p : Place) (f : Factor) → log_size D f P p ≡ size_at D P p f.at * unsigned_abs f.power
unfolding log_size
size-linear D P p f =
    let size = unsigned_abs-mul f.at.degree f.power in
    let whole = ap (λ n. n * total_below (λ j. unsigned_abs (P (difference_by (suc j) p f.at))) D) size in
    omega (arith, whole)

below-none : (f : ℕ → ℕ) (n : ℕ) → ((j : ℕ) → f j ≡ 0) → total_below f n ≡ 0
unfolding total_below
below-none f zero none = refl
below-none f (suc n) none = omega (arith, below-none f n none, none n)

none-at : (D : ℕ) (P : Place → ℤ) (p x : Place) → ((j : ℕ) → P (difference_by (suc j) p x) ≡ pos 0) →
    pos (size_at D P p x) ≡ pos 0
none-at D P p x none =
    let nothing = below-none (λ j. unsigned_abs (P (difference_by (suc j) p x))) D (λ j. ap unsigned_abs (none j)) in
    ap (λ n. pos (unsigned_abs x.degree * n)) nothing ∙ omega (arith, ints)

size-upto : (w T D : ℕ) (fs : List Factor) (p : Place) → AllByRecursion (IsHeavy w) fs → weight w p ≤ℤ pos T →
    IsUpTo w T p.degree (λ x. pos (size_at D (product fs) p x))
size-upto w T D fs p heavy room = record {
  high = λ x rising high. none-at D (product fs) p x (λ j. left-high fs p x j rising high);
  beyond = λ x rising more. none-at D (product fs) p x (λ j. left-beyond w T fs p x j heavy room more);
}

times-more : (a c : ℕ) (y : ℤ) → pos c ≤ℤ y → pos (a * c) ≤ℤ (pos a *ℤ y)
times-more a c (pos d) h =
    let less : a * c ≤ a * d = mul-le-mul_left a (omega (arith, ints)) in
    omega (arith, ints, less)
times-more a c (negsuc d) h = absurd (omega (arith, ints))

gathered-term : (hs : List ℤ) (D : ℕ) (fs : List Factor) (p : Place) (B : List ℤ) (m : ℤ) →
    pos (log_size D (gathered_factor hs fs B m) (product fs) p) ≤ℤ (pos (size_at D (product fs) p (place hs B m)) *ℤ total_in power_size fs B m)
gathered-term hs D fs p B m =
    omega (arith, ints, size-linear D (product fs) p (gathered_factor hs fs B m), times-more (size_at D (product fs) p (place hs B m)) (unsigned_abs (power_in fs B m)) (total_in power_size fs B m) (total_in-size fs B m))

pub gathered_sizes : GatheredSizes
unfolding gathered_size log_sizes
gathered_sizes hs w D T fs p Bs given =
    let P = product fs in
    let A = λ (x : Place). pos (size_at D P p x) in
    let m = λ (B : List ℤ) (t : ℕ). begins_at hs w B +ℤ pos t in
    let heavy = all-heavy hs w Bs p fs given.factors in
    let whole = pos-total (λ f. log_size D f P p) (λ f. A f.at *ℤ power_size f) fs (λ f. ap pos (size-linear D P p f)) in
    let apart = gather hs w T A power_size p Bs fs (size-upto w T D fs p heavy given.room) given.once given.factors in
    let less = pos-sum_of (gathered_size hs w D T fs p) (λ B. sum_below (λ t. A (place hs B (m B t)) *ℤ total_in power_size fs B (m B t)) (suc T)) Bs
    (λ B. total_below-size _ _ (suc T) (λ t h. gathered-term hs D fs p B (m B t))) in
    omega (arith, ints, whole, apart, less, sizes_of_terms D fs p (all-rising hs w Bs p fs given.factors) given.degree)
