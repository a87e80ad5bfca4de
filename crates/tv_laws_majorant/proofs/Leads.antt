-- The product without signs is at least the sum of the sizes of the exponents of the factors at a place.
--
-- IsPlaced hs f       == the factor stands at a place by the heights, of a degree of at least 1
-- size-up             a sum of sizes is at least 0; size-append, the sum over two lists
-- size_of_member      it is at least the size of each exponent there
-- power_in-size       it is at least the size of the sum of the exponents there
-- sizes_below         the product without signs is at least the sum
-- leads_are_bounded   and so is Katz's product without signs; powers_are_bounded, which bounds the sum of the exponents
use Rattle.std.specs.Prelude.{◌≡◌, Contains, ℕ, zero, suc, ℤ, pos, ◌+ℤ◌, ◌-ℤ◌, ◌*ℤ◌, neg_ℤ, ◌≤ℤ◌, unsigned_abs, true, List, [], ◌∷◌, ◌++◌, map}
use Rattle.std.specs.List.{AllByRecursion}
use Rattle.std.specs.Ordering.{int_eq}
use Rattle.std.proofs.Common.{refl, sym, ap, arith, ◌∙◌, inl, inr}
use Rattle.std.proofs.Math.IntN.{*ℤ-zero, neg_ℤ-neg_ℤ}
use Rattle.std.proofs.lemmas.Int.{ints}
use Rattle.std.proofs.lemmas.Bool.Decides.{Decides-int_eq}
use Rattle.tv_lemmas.specs.Naturals.{as_natural}
use Rattle.tv_lemmas.proofs.Members.{all-onto, all-flat_map, contains-cases}
use Rattle.tv_lemmas.proofs.Multiplied.{one-mul}
use Rattle.tv_lemmas.proofs.Naturals.{as_natural-is}
use Rattle.tv_lemmas.proofs.Signs.{mul-nonneg-nonneg}
use Rattle.tv_lemmas.proofs.Sums.{total-append}
use Rattle.tv_laws_series.proofs.NormalForm.{bool_cases}
use Rattle.tv_spec_boxes.specs.Assignments.{same_vector}
use Rattle.tv_spec_boxes.proofs.Vectors.{same_vector_tells, same_vector-same}
use Rattle.tv_spec_katz.specs.Binomials.{choose, power_at, power_sign, binomial, sum_below}
use Rattle.tv_spec_katz.specs.Places.{Place, place, class_difference, difference, difference_by, is_zero_class, unit}
use Rattle.tv_spec_katz.specs.Product.{Factor, times, product}
use Rattle.tv_spec_katz.specs.Katz.{Integer, factors_by, factors}
use Rattle.tv_spec_katz.specs.Majorant.{without_sign}
use Rattle.tv_laws_katz.specs.Further.{IsPositive}
use Rattle.tv_laws_katz.specs.Weights.{IsWithinSlope}
use Rattle.tv_laws_katz.specs.Logarithm.{when}
use Rattle.tv_laws_katz.specs.Gathered.{power_in}
use Rattle.tv_laws_katz.proofs.BelowSums.{sum_below-front}
use Rattle.tv_laws_katz.proofs.FurtherInteger.{IsFactorOf, factors-are, zero-class}
use Rattle.tv_laws_katz.proofs.LargerBound.{product-absolute}
use Rattle.tv_laws_katz.proofs.Powers.{power_at-zero, power_at-one, power_at-negsuc}
use Rattle.tv_laws_katz.proofs.TermSizes.{size_of_product, scaled-size, power-up, product-up}
use Rattle.tv_laws_katz.proofs.Units.{unit-one}
use Rattle.tv_laws_majorant.specs.Laws.{size_in, LeadsAreBounded, PowersAreBounded}

-- ---- the sum of sizes

size_at : List ℤ → ℤ → Factor → ℤ
size_at v n f = when (same_vector f.at.class v) (when (int_eq f.at.exponent n) (pos (unsigned_abs f.power)))

size_in-cons : (f : Factor) (fs : List Factor) (v : List ℤ) (n : ℤ) → size_in (f ∷ fs) v n ≡ size_at v n f +ℤ size_in fs v n
unfolding size_in size_at
size_in-cons f fs v n = refl

size_at-here : (v : List ℤ) (n : ℤ) (f : Factor) → f.at.class ≡ v → f.at.exponent ≡ n → size_at v n f ≡ pos (unsigned_abs f.power)
unfolding size_at
size_at-here v n f c e =
    let class : same_vector f.at.class v ≡ true = ap (λ u. same_vector f.at.class u) (sym c) ∙ same_vector-same f.at.class in
    rw (class, (Decides-int_eq f.at.exponent n).1 e) refl

-- what holds where a factor stands elsewhere, and where it stands there, holds of its size
size_cases : (v : List ℤ) (n : ℤ) (f : Factor) (P : ℤ → Type 0) → P (pos 0) →
    (f.at.class ≡ v → f.at.exponent ≡ n → P (pos (unsigned_abs f.power))) → P (size_at v n f)
unfolding size_at
size_cases v n f P none here = bool_cases (same_vector f.at.class v)
    (λ c. bool_cases (int_eq f.at.exponent n)
    (λ e. rw (c, e) (here (same_vector_tells f.at.class v c) ((Decides-int_eq f.at.exponent n).0 e)))
    (λ e. rw (c, e) none))
    (λ c. rw c none)

size_at-up : (v : List ℤ) (n : ℤ) (f : Factor) → pos 0 ≤ℤ size_at v n f
size_at-up v n f = size_cases v n f (λ z. pos 0 ≤ℤ z) (omega (arith, ints)) (λ c e. omega (arith, ints))

pub size-up : (fs : List Factor) (v : List ℤ) (n : ℤ) → pos 0 ≤ℤ size_in fs v n
unfolding size_in
size-up [] v n = omega (arith, ints)
size-up (f ∷ fs) v n = omega (arith, ints, size_in-cons f fs v n, size_at-up v n f, size-up fs v n)

pub size-append : (fs gs : List Factor) (v : List ℤ) (n : ℤ) → size_in (fs ++ gs) v n ≡ size_in fs v n +ℤ size_in gs v n
unfolding size_in
size-append fs gs v n = total-append _ fs gs

pub size_of_member : (fs : List Factor) (f : Factor) (v : List ℤ) (n : ℤ) → Contains fs f → f.at.class ≡ v → f.at.exponent ≡ n →
    pos (unsigned_abs f.power) ≤ℤ size_in fs v n
size_of_member [] f v n among c e = absurd (let none = among.1 in omega arith)
size_of_member (g ∷ fs) f v n among c e =
    elim (contains-cases f g fs among) as (λ _. pos (unsigned_abs f.power) ≤ℤ size_in (g ∷ fs) v n) [
      | inl same ↦
          let class = ap (λ (x : Factor). x.at.class) same ∙ c in
          let here = size_at-here v n g class (ap (λ (x : Factor). x.at.exponent) same ∙ e) in
          let power = ap (λ (x : Factor). unsigned_abs x.power) same in
          omega (arith, ints, size_in-cons g fs v n, size-up fs v n)
      | inr later ↦ omega (arith, ints, size_in-cons g fs v n, size_at-up v n g, size_of_member fs f v n later c e)
    ]

-- the exponents add up to at most their sizes
signed_cases : (v : List ℤ) (n : ℤ) (f : Factor) (P : ℤ → ℤ → Type 0) → P (pos 0) (pos 0) →
    P f.power (pos (unsigned_abs f.power)) →
    P (when (same_vector f.at.class v) (when (int_eq f.at.exponent n) f.power)) (size_at v n f)
unfolding size_at
signed_cases v n f P none here = bool_cases (same_vector f.at.class v)
    (λ c. bool_cases (int_eq f.at.exponent n) (λ e. rw (c, e) here) (λ e. rw (c, e) none))
    (λ c. rw c none)

pub power_in-size : (fs : List Factor) (v : List ℤ) (n : ℤ) → pos (unsigned_abs (power_in fs v n)) ≤ℤ size_in fs v n
unfolding power_in size_in
power_in-size [] v n = omega (arith, ints)
power_in-size (f ∷ fs) v n =
    let one = signed_cases v n f (λ x y. pos (unsigned_abs x) ≤ℤ y) (omega (arith, ints)) (omega (arith, ints)) in
    omega (arith, ints, size_in-cons f fs v n, one, power_in-size fs v n)

-- ---- terms of at least 0

sum_below-up : (f : ℕ → ℤ) (n : ℕ) → ((k : ℕ) → pos 0 ≤ℤ f k) → pos 0 ≤ℤ sum_below f n
unfolding sum_below
sum_below-up f zero up = omega (arith, ints)
sum_below-up f (suc n) up = omega (arith, ints, sum_below-up f n up, up n)

-- ---- the first two powers of a factor without sign

abbrev term : Factor → List Factor → Place → ℕ → ℤ
term f fs p k = power_at (without_sign f).power k *ℤ product (map without_sign fs) (difference_by k p f.at)

term-up : (f : Factor) (fs : List Factor) (p : Place) (k : ℕ) → pos 0 ≤ℤ term f fs p k
term-up f fs p k = mul-nonneg-nonneg (power_at (without_sign f).power k) (product (map without_sign fs) (difference_by k p f.at))
    (power-up (unsigned_abs f.power) k) (product-up fs (difference_by k p f.at))

term-first : (f : Factor) (fs : List Factor) (p : Place) → term f fs p 0 ≡ product (map without_sign fs) p
unfolding difference_by
term-first f fs p = ap (λ z. z *ℤ product (map without_sign fs) p) (power_at-zero (without_sign f).power) ∙
    one-mul (product (map without_sign fs) p)

term-second : (f : Factor) (fs : List Factor) (p : Place) →
    term f fs p 1 ≡ pos (unsigned_abs f.power) *ℤ product (map without_sign fs) (difference p f.at)
unfolding difference_by
term-second f fs p = ap (λ z. z *ℤ product (map without_sign fs) (difference p f.at))
    (power_at-one (without_sign f).power ∙ neg_ℤ-neg_ℤ (pos (unsigned_abs f.power)))

product-terms : (f : Factor) (fs : List Factor) (p : Place) →
    product (map without_sign (f ∷ fs)) p ≡ sum_below (term f fs p) (suc (as_natural p.degree))
unfolding product times
product-terms f fs p = refl

-- without the factor
first-below : (f : Factor) (fs : List Factor) (p : Place) →
    product (map without_sign fs) p ≤ℤ product (map without_sign (f ∷ fs)) p
first-below f fs p =
    let front = sum_below-front (term f fs p) (as_natural p.degree) in
    let rest = sum_below-up (λ k. term f fs p (suc k)) (as_natural p.degree) (λ k. term-up f fs p (suc k)) in
    omega (arith, ints, product-terms f fs p, term-first f fs p)

-- and with its first power, where the degree is at least 1
second-below : (f : Factor) (fs : List Factor) (p : Place) → pos 1 ≤ℤ p.degree →
    (product (map without_sign fs) p +ℤ (pos (unsigned_abs f.power) *ℤ product (map without_sign fs) (difference p f.at))) ≤ℤ
    product (map without_sign (f ∷ fs)) p
second-below f fs p up = by_count (as_natural p.degree) refl
  where
    by_count : (m : ℕ) → as_natural p.degree ≡ m →
        (product (map without_sign fs) p +ℤ (pos (unsigned_abs f.power) *ℤ product (map without_sign fs) (difference p f.at))) ≤ℤ
        product (map without_sign (f ∷ fs)) p
    by_count zero e = absurd (omega (arith, ints, as_natural-is p.degree (omega (arith, ints))))
    by_count (suc m) e =
        let count = ap (λ c. sum_below (term f fs p) (suc c)) e in
        let front = sum_below-front (term f fs p) (suc m) in
        let next = sum_below-front (λ k. term f fs p (suc k)) m in
        let rest = sum_below-up (λ k. term f fs p (suc (suc k))) m (λ k. term-up f fs p (suc (suc k))) in
        omega (arith, ints, product-terms f fs p, term-first f fs p, term-second f fs p)

unit-below : (fs : List Factor) (p : Place) → unit p ≤ℤ product (map without_sign fs) p
unfolding product
unit-below [] p = omega (arith, ints)
unit-below (f ∷ fs) p = omega (arith, ints, unit-below fs p, first-below f fs p)

-- ---- factors at a place

pub record IsPlaced (hs : List ℤ) (f : Factor) : Type 0 where
  pub graded : f.at ≡ place hs f.at.class f.at.exponent
  pub rising : pos 1 ≤ℤ f.at.degree

none-left : (p : Place) → unit (difference p p) ≡ pos 1
none-left p = unit-one (difference p p)
    (record { degree = omega (arith, ints); class = zero-class p.class; exponent = omega (arith, ints) })

at-place : (hs v : List ℤ) (n : ℤ) (f : Factor) → IsPlaced hs f → f.at.class ≡ v → f.at.exponent ≡ n → f.at ≡ place hs v n
at-place hs v n f is c e = is.graded ∙ (ap (λ u. place hs u f.at.exponent) c ∙ ap (λ m. place hs v m) e)

-- a factor that stands there adds the size of its exponent
here-below : (f : Factor) (fs : List Factor) (p : Place) → pos 1 ≤ℤ f.at.degree → f.at ≡ p →
    (product (map without_sign fs) p +ℤ pos (unsigned_abs f.power)) ≤ℤ product (map without_sign (f ∷ fs)) p
here-below f fs p rising e =
    let up : pos 1 ≤ℤ p.degree = rw (sym e) rising in
    let left = ap (λ x. unit (difference p x)) e ∙ none-left p in
    let least = unit-below fs (difference p f.at) in
    let more = scaled-size (unsigned_abs f.power) 1 (pos (unsigned_abs f.power))
    (product (map without_sign fs) (difference p f.at)) refl (omega (arith, ints)) in
    omega (arith, ints, second-below f fs p up)

pub sizes_below : (hs : List ℤ) (fs : List Factor) (v : List ℤ) (n : ℤ) → AllByRecursion (IsPlaced hs) fs →
    size_in fs v n ≤ℤ product (map without_sign fs) (place hs v n)
unfolding size_in
sizes_below hs [] v n all = omega (arith, ints, product-up [] (place hs v n))
sizes_below hs (f ∷ fs) v n all =
    let rest = sizes_below hs fs v n all.1 in
    let p = place hs v n in
    let one : (product (map without_sign fs) p +ℤ size_at v n f) ≤ℤ product (map without_sign (f ∷ fs)) p =
    size_cases v n f (λ z. (product (map without_sign fs) p +ℤ z) ≤ℤ product (map without_sign (f ∷ fs)) p)
    (omega (arith, ints, first-below f fs p)) (λ c e. here-below f fs p all.0.rising (at-place hs v n f all.0 c e)) in
    omega (arith, ints, size_in-cons f fs v n)

-- ---- the factors of integers

factor-placed : (hs : List ℤ) (i : Integer) → IsPositive hs i → (f : Factor) → IsFactorOf hs i f → IsPlaced hs f
factor-placed hs i positive f of =
    let P : Factor → Type 0 = IsPlaced hs in
    rw (of.is) (record { graded = refl; rising = positive })

pub factors-placed : (hs : List ℤ) (J : ℕ) (is : List Integer) → AllByRecursion (IsPositive hs) is →
    AllByRecursion (IsPlaced hs) (factors hs J is)
factors-placed hs J is positive = all-flat_map (IsPositive hs) (IsPlaced hs) (λ i. factors_by hs i.genus J i)
    (λ i h. all-onto (IsFactorOf hs i) (IsPlaced hs) (factor-placed hs i h) (factors_by hs i.genus J i)
    (factors-are hs i.genus J i refl)) is positive

pub leads_are_bounded : LeadsAreBounded
leads_are_bounded hs w is v n J within low =
    let positive = all-onto (IsWithinSlope hs w) (IsPositive hs) (λ i h. h.positive) is within in
    rw (product-absolute hs w is v n J within low) (sizes_below hs (factors hs J is) v n (factors-placed hs J is positive))

pub powers_are_bounded : PowersAreBounded
powers_are_bounded hs w is v n J within low =
    omega (arith, ints, power_in-size (factors hs J is) v n, leads_are_bounded hs w is v n J within low)
