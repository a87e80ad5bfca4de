-- The recurrence of Katz's product over integers, class by class.
--
-- heavy-term        each term of s^(g-1) has a weight of at least 0 at the class of its integer
-- terms-gathered    the terms of s(y^k)^(g-1), gathered exponent by exponent
-- part              what the multiple k of an integer's class adds, at a class B
-- listed-parts      the sum of the parts over all classes, for one integer and k
-- class-sum         the sum of the parts over all integers and k, at one class
-- katz_recurrence   the recurrence, with the signs of q = -y; katz_division, from which the coefficient is read off
use Rattle.std.specs.Prelude.{◌≡◌, ◌⊎◌, Contains, ℕ, zero, suc, ◌*◌, ◌<◌, ◌≤◌, ℤ, pos, negsuc, ◌+ℤ◌, ◌-ℤ◌, ◌*ℤ◌, ◌≤ℤ◌, unsigned_abs, Bool, true, false, List, length}
use Rattle.std.specs.List.{AllByRecursion, IsDistinct}
use Rattle.std.specs.Ordering.{int_eq}
use Rattle.std.proofs.Common.{refl, sym, ap, arith, ◌∙◌, inl, inr}
use Rattle.std.proofs.Math.IntN.{*ℤ-zero, zero-*ℤ}
use Rattle.std.proofs.lemmas.Int.{ints}
use Rattle.std.proofs.lemmas.List.{length-map}
use Rattle.tv_lemmas.specs.Naturals.{as_natural}
use Rattle.tv_lemmas.specs.Sums.{total}
use Rattle.tv_lemmas.proofs.Integers.{mul-add}
use Rattle.tv_lemmas.proofs.Signs.{sign, mul-nonneg-nonneg}
use Rattle.tv_lemmas.proofs.Sums.{total-flat_map, total-same, total-all}
use Rattle.tv_lemmas.proofs.Members.{all-any, all-both}
use Rattle.tv_spec_plane.specs.Web.{degree_of}
use Rattle.tv_spec_boxes.specs.Assignments.{times, same_vector}
use Rattle.tv_spec_boxes.proofs.Vectors.{same_vector-same, same_vector_tells}
use Rattle.tv_spec_katz.specs.Binomials.{power_sign, sum_below}
use Rattle.tv_spec_katz.specs.Places.{Place, place, class_difference, difference_by}
use Rattle.tv_spec_katz.specs.Product.{product}
use Rattle.tv_spec_katz.specs.Katz.{Integer, factors_by, factors, katz}
use Rattle.tv_laws_counts.proofs.Degrees.{degree_of-times}
use Rattle.tv_laws_katz.specs.Weights.{weight, IsWithinSlope}
use Rattle.tv_laws_katz.specs.Recurrence.{log_of, logs}
use Rattle.tv_laws_katz.specs.Logarithm.{when, s_terms, s_exponent, s_coefficient, s_power_to, s_power, log_of_integer, logarithm, begins_at, log_term, log_sum, HasMultiples, KatzRecurrence, KatzDivision}
use Rattle.tv_laws_katz.proofs.BelowSums.{sum_below-same, sum_below-none, sum_below-scale, sum_below-swap, sum_below-longer}
use Rattle.tv_laws_katz.proofs.Differences.{difference_by-weight}
use Rattle.tv_laws_katz.proofs.Elsewhere.{degree-difference}
use Rattle.tv_laws_katz.proofs.IntegerLogs.{multiple_terms, scale_of, integer-logs}
use Rattle.tv_laws_katz.proofs.LargerBound.{factors-heavy, positive-all, product-katz}
use Rattle.tv_laws_katz.proofs.Multiples.{place-multiple, weight-left}
use Rattle.tv_lemmas.proofs.Multiplied.{mul-middle, product-pairs}
use Rattle.tv_laws_katz.proofs.Powers.{power_sign-split}
use Rattle.tv_laws_katz.proofs.Outside.{below-weight}
use Rattle.tv_laws_katz.proofs.ProductRecurrence.{factor_recurrence, cancelled}
use Rattle.tv_laws_katz.proofs.TermSizes.{factors-rise}
use Rattle.tv_laws_katz.proofs.Totals.{spread, at-most-or, total-pick, total-sum_below, total-swap, total-scale, when-off, int_eq-apart}
use Rattle.tv_laws_katz.proofs.Units.{product-below, natural-most}
use Rattle.tv_lemmas.proofs.Naturals.{as_natural-is}

heavy-term : (hs : List ℤ) (w g T : ℕ) (i : Integer) → IsWithinSlope hs w i → i.genus ≡ g → (j : ℕ) → j < s_terms g T →
    pos 0 ≤ℤ weight w (place hs i.class (s_exponent g j))
heavy-term hs w zero T i within e j h =
    omega (arith, ints, mul-nonneg-nonneg (pos w) (degree_of hs i.class) (omega (arith, ints)) (omega (arith, ints, within.positive)))
heavy-term hs w (suc g) T i within e j h = omega (arith, ints, within.slope)

-- k times an exponent, from the lowest of the multiple on
from-lowest : (hs : List ℤ) (w k : ℕ) (B : List ℤ) (m : ℤ) →
    pos k *ℤ m ≡ begins_at hs w (times k B) +ℤ (pos k *ℤ weight w (place hs B m))
from-lowest hs w k B m =
    omega (arith, ints, ap (λ z. pos w *ℤ z) (degree_of-times hs k B), mul-add (pos k) m (pos w *ℤ degree_of hs B), mul-middle (pos w) (pos k) (degree_of hs B))

beyond : (k j : ℕ) (m : ℤ) → as_natural m ≤ j → pos (suc k * suc j) ≡ m → ⊥
beyond k j (pos m) h e = omega (arith, ints, e)
beyond k j (negsuc m) h e = omega (arith, ints, e)

-- in genus 0 the terms beyond m have exponents above it
s_power-longer : (T g k : ℕ) (m : ℤ) → as_natural m ≤ T → s_power_to T g (suc k) m ≡ s_power g (suc k) m
unfolding s_power s_power_to
s_power-longer T zero k m h =
    sum_below-longer _ (as_natural m) T h (λ j l less. when-off (int_eq (pos (suc k * suc j)) m) (negsuc j) (int_eq-apart (pos (suc k * suc j)) m (beyond k j m l)))
s_power-longer T (suc g) k m h = refl

multiple-rises : (hs : List ℤ) (k : ℕ) (B : List ℤ) → pos 1 ≤ℤ degree_of hs B → pos 0 ≤ℤ degree_of hs (times k B)
multiple-rises hs k B h =
    omega (arith, ints, degree_of-times hs k B, mul-nonneg-nonneg (pos k) (degree_of hs B) (omega (arith, ints)) (omega (arith, ints)))

lowest-low : (hs : List ℤ) (w k t T : ℕ) (B : List ℤ) → pos 1 ≤ℤ degree_of hs B → t ≤ T →
    as_natural (begins_at hs w (times k B) +ℤ pos t) ≤ T
lowest-low hs w k t T B h l = natural-most (begins_at hs w (times k B) +ℤ pos t) T
    (omega (arith, ints, mul-nonneg-nonneg (pos w) (degree_of hs (times k B)) (omega (arith, ints)) (multiple-rises hs k B h)))

module _ (hs : List ℤ) (w T : ℕ) (is : List Integer) (v : List ℤ) (n : ℤ) (all : AllByRecursion (IsWithinSlope hs w) is) (entries : length v ≡ length hs) (low : weight w (place hs v n) ≤ℤ pos T) where
  abbrev series : Place → ℤ
  series = product (factors hs T is)

  -- the series at a class less than v, and at an exponent less than n
  abbrev left : List ℤ → ℤ → ℤ
  left B m = series (place hs (class_difference v B) (n -ℤ m))

  abbrev exponent_at : List ℤ → ℕ → ℤ
  exponent_at B t = begins_at hs w B +ℤ pos t

  -- a term further than T takes off more than the weight of the place
  term-place : (i : Integer) → IsWithinSlope hs w i → length i.class ≡ length hs → (k j : ℕ) → j < s_terms i.genus T →
      (r : ℕ) × (pos (suc k) *ℤ s_exponent i.genus j ≡ begins_at hs w (times (suc k) i.class) +ℤ pos r) × ((r ≤ T) ⊎ (left (times (suc k) i.class) (pos (suc k) *ℤ s_exponent i.genus j) ≡ pos 0))
  term-place i within f k j h =
      let m = s_exponent i.genus j in
      let x = place hs i.class m in
      let heavy = heavy-term hs w i.genus T i within refl j h in
      let r = as_natural (pos (suc k) *ℤ weight w x) in
      let is-r : pos (suc k) *ℤ weight w x ≡ pos r = as_natural-is (pos (suc k) *ℤ weight w x) (mul-nonneg-nonneg (pos (suc k)) (weight w x) (omega (arith, ints)) heavy) in (
        r,
        omega (arith, ints, from-lowest hs w (suc k) i.class m, is-r),
        at-most-or T r (left (times (suc k) i.class) (pos (suc k) *ℤ m) ≡ pos 0) (λ more.
            ap series (sym (place-multiple hs (suc k) v i.class n m entries f)) ∙
            below-weight w (factors hs T is) (factors-heavy hs w T is all) (difference_by (suc k) (place hs v n) x) (omega (arith, ints, difference_by-weight w (suc k) (place hs v n) x, is-r))),
      )

  terms-gathered : (i : Integer) (k : ℕ) → IsWithinSlope hs w i → length i.class ≡ length hs →
      multiple_terms hs i series (place hs v n) i.genus (s_terms i.genus T) k ≡
      sum_below (λ t. left (times (suc k) i.class) (exponent_at (times (suc k) i.class) t) *ℤ s_power i.genus (suc k) (exponent_at (times (suc k) i.class) t)) (suc T)
  unfolding s_power_to
  terms-gathered i k within f =
      let B = times (suc k) i.class in
      let g = i.genus in
      sum_below-same _ _ (s_terms g T) (λ j h. ap (λ q. series q *ℤ s_coefficient g j) (place-multiple hs (suc k) v i.class n (s_exponent g j) entries f)) ∙
      (spread (left B) (begins_at hs w B) T (s_terms g T) (λ j. pos (suc k) *ℤ s_exponent g j) (s_coefficient g) (term-place i within f k) ∙
      sum_below-same _ _ (suc T) (λ t h. ap (λ z. left B (exponent_at B t) *ℤ z) (s_power-longer T g k (exponent_at B t) (lowest-low hs w (suc k) t T i.class within.positive (omega arith)))))

  -- what the multiple k + 1 of the integer's class adds, at the class B
  abbrev part : Integer → ℕ → List ℤ → ℤ
  part i k B = scale_of hs i *ℤ sum_below (λ t. left B (exponent_at B t) *ℤ s_power i.genus (suc k) (exponent_at B t)) (suc T)

  part-none : (i : Integer) (k : ℕ) (B : List ℤ) → ((m : ℤ) → left B m ≡ pos 0) → part i k B ≡ pos 0
  part-none i k B none =
      let nothing = sum_below-none (λ t. left B (exponent_at B t) *ℤ s_power i.genus (suc k) (exponent_at B t)) (suc T) (λ t h. ap (λ z. z *ℤ s_power i.genus (suc k) (exponent_at B t)) (none (exponent_at B t)) ∙ zero-*ℤ (s_power i.genus (suc k) (exponent_at B t))) in
      ap (λ z. scale_of hs i *ℤ z) nothing ∙ *ℤ-zero (scale_of hs i)

  -- a multiple is listed, or it has more than the degree of v
  listed-or : (Bs : List (List ℤ)) (D : ℕ) (i : Integer) (k : ℕ) → k < D → HasMultiples hs v Bs D i →
      Contains Bs (times (suc k) i.class) ⊎ (part i k (times (suc k) i.class) ≡ pos 0)
  listed-or Bs D i k h multiples =
      let B = times (suc k) i.class in
      elim (sign (degree_of hs v -ℤ degree_of hs B)) [
        | inl less ↦ inr (part-none i k B (λ m. product-below (factors hs T is) (place hs (class_difference v B) (n -ℤ m)) (omega (arith, ints, degree-difference hs v B entries (length-map i.class (λ x. pos (suc k) *ℤ x) ∙ multiples.entries)))))
        | inr (inl same) ↦ inl (multiples.listed k h (omega (arith, ints)))
        | inr (inr more) ↦ inl (multiples.listed k h (omega (arith, ints)))
      ]

  listed-parts : (Bs : List (List ℤ)) (D : ℕ) (i : Integer) (k : ℕ) → k < D → IsDistinct same_vector Bs →
      HasMultiples hs v Bs D i →
      total (λ B. when (same_vector (times (suc k) i.class) B) (part i k B)) Bs ≡ part i k (times (suc k) i.class)
  listed-parts Bs D i k h once multiples =
      total-pick same_vector same_vector_tells same_vector-same (part i k) (times (suc k) i.class) Bs once (listed-or Bs D i k h multiples)

  -- a sum under a test, and with a factor in front
  when-sum : (b : Bool) (d : ℤ) (P s : ℕ → ℤ) (N : ℕ) →
      when b (d *ℤ sum_below (λ t. P t *ℤ s t) N) ≡ sum_below (λ t. P t *ℤ when b (d *ℤ s t)) N
  when-sum true d P s N = sum_below-scale d (λ t. P t *ℤ s t) N ∙ sum_below-same _ _ N (λ t h. mul-middle d (P t) (s t))
  when-sum false d P s N = sym (sum_below-none _ N (λ t h. *ℤ-zero (P t)))

  class-sum : (D : ℕ) (B : List ℤ) →
      total (λ i. sum_below (λ k. when (same_vector (times (suc k) i.class) B) (part i k B)) D) is ≡
      sum_below (λ t. left B (exponent_at B t) *ℤ logarithm hs D is B (exponent_at B t)) (suc T)
  unfolding logarithm log_of_integer
  class-sum D B =
      let N = suc T in
      let P = λ (t : ℕ). left B (exponent_at B t) in
      let X = λ (i : Integer) (k t : ℕ). when (same_vector (times (suc k) i.class) B) (scale_of hs i *ℤ s_power i.genus (suc k) (exponent_at B t)) in
      total-same _ (λ i. sum_below (λ t. P t *ℤ sum_below (λ k. X i k t) D) N) is (all-any _ (λ i.
      sum_below-same _ _ D (λ k h. when-sum (same_vector (times (suc k) i.class) B) (scale_of hs i) P (λ t. s_power i.genus (suc k) (exponent_at B t)) N) ∙
      (sum_below-swap (λ k t. P t *ℤ X i k t) D N ∙ sum_below-same _ _ N (λ t h. sym (sum_below-scale (P t) (λ k. X i k t) D)))) is) ∙
      (total-sum_below (λ i t. P t *ℤ sum_below (λ k. X i k t) D) N is ∙
      sum_below-same _ _ N (λ t h. sym (total-scale (P t) (λ i. sum_below (λ k. X i k t) D) is)))

  pub series-sum : (D : ℕ) (Bs : List (List ℤ)) → degree_of hs v ≤ℤ pos D → IsDistinct same_vector Bs →
      AllByRecursion (HasMultiples hs v Bs D) is →
      degree_of hs v *ℤ series (place hs v n) ≡ total (λ B. sum_below (λ t. left B (exponent_at B t) *ℤ logarithm hs D is B (exponent_at B t)) (suc T)) Bs
  unfolding logs
  series-sum D Bs most once multiples =
      let p = place hs v n in
      let X = λ (i : Integer) (B : List ℤ) (k : ℕ). when (same_vector (times (suc k) i.class) B) (part i k B) in
      factor_recurrence D (factors hs T is) p (factors-rise hs T is (positive-all hs w is all)) most ∙
      (total-flat_map (λ f. log_of D f series p) (λ i. factors_by hs i.genus T i) is ∙
      (total-same _ (λ i. total (λ B. sum_below (X i B) D) Bs) is
      (all-both (IsWithinSlope hs w) (HasMultiples hs v Bs D) _ (λ i within has.
      integer-logs D hs T i series p ∙
      (sum_below-same _ _ D (λ k h. ap (λ z. scale_of hs i *ℤ z) (terms-gathered i k within has.entries) ∙ sym (listed-parts Bs D i k h once has)) ∙
      sym (total-sum_below (λ B k. X i B k) D Bs))) is all multiples) ∙
      (total-swap (λ i B. sum_below (X i B) D) is Bs ∙
      total-same _ _ Bs (all-any _ (λ B. class-sum D B) Bs))))

  -- the signs of q = -y
  signed-term : (D : ℕ) (B : List ℤ) (t : ℕ) → t ≤ T → length B ≡ length hs →
      power_sign (unsigned_abs n) *ℤ (left B (exponent_at B t) *ℤ logarithm hs D is B (exponent_at B t)) ≡ log_term hs D is v n B (exponent_at B t)
  signed-term D B t h f =
      let m = exponent_at B t in
      let L = logarithm hs D is B m in
      let here = product-katz hs w is (class_difference v B) (n -ℤ m) T all (omega (arith, ints, weight-left hs w v B n m entries f)) in
      ap (λ s. s *ℤ (left B m *ℤ L)) (power_sign-split n m) ∙
      (product-pairs (power_sign (unsigned_abs (n -ℤ m))) (power_sign (unsigned_abs m)) (left B m) L ∙
      ap (λ z. z *ℤ (power_sign (unsigned_abs m) *ℤ L)) (sym here))

pub katz_recurrence : KatzRecurrence
unfolding log_sum
katz_recurrence hs w D T is v n Bs given =
    let s = power_sign (unsigned_abs n) in
    let P = product (factors hs T is) (place hs v n) in
    let Y = λ (B : List ℤ) (t : ℕ). product (factors hs T is) (place hs (class_difference v B) (n -ℤ (begins_at hs w B +ℤ pos t))) *ℤ logarithm hs D is B (begins_at hs w B +ℤ pos t) in
    ap (λ z. degree_of hs v *ℤ z) (product-katz hs w is v n T given.slope given.room) ∙
    (mul-middle (degree_of hs v) s P ∙
    (ap (λ z. s *ℤ z) (series-sum hs w T is v n given.slope given.entries given.room D Bs given.degree given.once given.multiples) ∙
    (total-scale s (λ B. sum_below (Y B) (suc T)) Bs ∙
    total-all (λ B. length B ≡ length hs) (λ B. s *ℤ sum_below (Y B) (suc T)) (log_sum hs w D T is v n) (λ B f.
    sum_below-scale s (Y B) (suc T) ∙ sum_below-same _ _ (suc T) (λ t h. signed-term hs w T is v n given.slope given.entries given.room D B t (omega arith) f)) Bs given.lengths)))

pub katz_division : KatzDivision
katz_division hs w D T is v n Bs x given least e =
    cancelled (degree_of hs v) x (katz hs is v n) least (e ∙ sym (katz_recurrence hs w D T is v n Bs given))
