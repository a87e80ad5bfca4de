-- The coefficients of sums and of cut series, exponent by exponent, and series that are told apart by them.
use Rattle.std.proofs.Common.{◌≡◌, ℕ, ◌-◌, ◌<◌, ◌≤◌, min, ℤ, pos, ◌+ℤ◌, ◌<ℤ◌, ◌≤ℤ◌, int_lt, true, false, if◌then◌else◌, take, refl, sym, ◌∙◌, ap, arith, length}
use Rattle.std.specs.Int.{int_min}
use Rattle.std.proofs.lemmas.Int.{ints, clamps, by_lt_z}
use Rattle.std.proofs.lemmas.List.{length-take}
use Rattle.tv_ring.specs.Operations.{Operations, RingLaws}
use Rattle.tv_ring.specs.Sums.{at, convolution}
use Rattle.tv_ring.proofs.Rings.{mul-nought}
use Rattle.tv_ring.proofs.Products.{convolution-same}
use Rattle.tv_laws_series.specs.Terms.{scaled, Terms, above, upto, from, known, plus}
use Rattle.tv_laws_series.specs.Series.{series_sum, series_product, series_shift, series_scale, series_cut}
use Rattle.tv_laws_series.specs.SeriesLaws.{HasValues}
use Rattle.tv_laws_series.proofs.Exponents.{above_is, above_adds}
use Rattle.tv_laws_series.proofs.Listed.{length-listed, at-listed, at-take, at_past}
use Rattle.tv_laws_series.proofs.Padded.{padded_before, padded_after, scaled_is}
use Rattle.tv_laws_series.proofs.SeriesFrom.{from_is, same_terms, known-sum, from-sum, from-product}
use Rattle.tv_laws_series.specs.Coefficients.{coefficient}

coefficient_is : {A : Type 0} (r : Operations A) (t : Terms A) (n : ℤ) → coefficient r t n ≡ (if int_lt n t.low then r.nought else at r t.coefficients (above t.low n))
unfolding coefficient
coefficient_is r t n = refl

pub coefficient_below : {A : Type 0} (r : Operations A) (t : Terms A) (n : ℤ) → n <ℤ t.low → coefficient r t n ≡ r.nought
coefficient_below r t n h = let b = int_lt-is n t.low h in rw (coefficient_is r t n, b) refl
  where
    int_lt-is : (a b : ℤ) → a <ℤ b → int_lt a b ≡ true
    int_lt-is a b h = grind (arith, ints)

pub coefficient_at : {A : Type 0} (r : Operations A) (t : Terms A) (n : ℤ) → t.low ≤ℤ n → coefficient r t n ≡ at r t.coefficients (above t.low n)
coefficient_at r t n h = let b = int_lt-not n t.low h in rw (coefficient_is r t n, b) refl
  where
    int_lt-not : (a b : ℤ) → b ≤ℤ a → int_lt a b ≡ false
    int_lt-not a b h = grind (arith, ints)

-- counted from an exponent at or below the lowest one
pub coefficient-from : {A : Type 0} (r : Operations A) (m : ℤ) (t : Terms A) (k : ℕ) → m ≤ℤ t.low → coefficient r t (m +ℤ pos k) ≡ from r m t k
coefficient-from r m t k h = by_lt_z (m +ℤ pos k) t.low
    (λ below. let e : k < above m t.low = omega (arith, ints, above_is m t.low) in
    coefficient_below r t (m +ℤ pos k) below ∙ sym (from_is r m t k ∙ padded_before r (above m t.low) (at r t.coefficients) k e))
    (λ from_low. let e : above m t.low ≤ k = omega (arith, ints, above_is m t.low) in
    let d : above t.low (m +ℤ pos k) ≡ k - above m t.low = omega (arith, ints, above_is m t.low, above_is t.low (m +ℤ pos k)) in
    coefficient_at r t (m +ℤ pos k) from_low ∙ ap (at r t.coefficients) d ∙ sym (from_is r m t k ∙ padded_after r (above m t.low) (at r t.coefficients) k e))

coefficient-at_from : {A : Type 0} (r : Operations A) (m n : ℤ) (t : Terms A) → m ≤ℤ n → m ≤ℤ t.low → coefficient r t n ≡ from r m t (above m n)
coefficient-at_from r m n t h k = ap (coefficient r t) (sym (above_adds m n h)) ∙ coefficient-from r m t (above m n) k

-- equal lowest exponents, equal last ones, equal coefficients
pub same_series : {A : Type 0} (r : Operations A) (a b : Terms A) → a.low ≡ b.low → upto a ≡ upto b → ((n : ℤ) → n ≤ℤ upto a → coefficient r a n ≡ coefficient r b n) → a ≡ b
same_series r a b e last each = same_terms r a.low a b refl (sym e) lengths (λ k h.
    let o = above_is a.low a.low in
    sym (coefficient-from r a.low a k (omega (arith, ints))) ∙ each (a.low +ℤ pos k) (omega (arith, ints)) ∙ coefficient-from r a.low b k (omega (arith, ints))) where
      lengths : known a.low a ≡ known a.low b
      lengths = omega (arith, ints, above_is a.low a.low, above_is a.low b.low)

-- ---- the exponent through which it is known

pub upto-sum : {A : Type 0} (r : Operations A) (a b : Terms A) → upto (series_sum r a b) ≡ int_min (upto a) (upto b)
upto-sum r a b =
    let m = int_min a.low b.low in
    omega (arith, ints, clamps, length-listed (plus r (from r m a) (from r m b)) (min (known m a) (known m b)), above_is m a.low, above_is m b.low)

pub upto-cut : {A : Type 0} (n : ℤ) (a : Terms A) → upto (series_cut n a) ≡ int_min n (upto a)
upto-cut n a = omega (arith, ints, clamps, length-take (above a.low (n +ℤ pos 1)) a.coefficients, above_is a.low (n +ℤ pos 1))

pub coefficient-cut : {A : Type 0} (r : Operations A) (n : ℤ) (a : Terms A) (i : ℤ) → i ≤ℤ n → coefficient r (series_cut n a) i ≡ coefficient r a i
coefficient-cut r n a i h = by_lt_z i a.low
    (λ below. coefficient_below r (series_cut n a) i (omega (arith, ints, clamps)) ∙ sym (coefficient_below r a i below))
    (λ from_low.
    let low : int_min a.low (n +ℤ pos 1) ≡ a.low = omega (arith, ints, clamps) in
    let within : above a.low i < above a.low (n +ℤ pos 1) = omega (arith, ints, above_is a.low i, above_is a.low (n +ℤ pos 1)) in
    coefficient_at r (series_cut n a) i (omega (arith, ints, clamps))
    ∙ ap (λ l. at r (take (above a.low (n +ℤ pos 1)) a.coefficients) (above l i)) low
    ∙ at-take r a.coefficients (above a.low (n +ℤ pos 1)) (above a.low i) within
    ∙ sym (coefficient_at r a i from_low))

module _ {A : Type 0} {IsValue : A → Type 0} {r : Operations A} (laws : RingLaws IsValue r) where
  pub value_coefficient : (a : Terms A) (n : ℤ) → HasValues IsValue r a → IsValue (coefficient r a n)
  value_coefficient a n v = by_lt_z n a.low (λ below. rw (coefficient_below r a n below) laws.value_nought) (λ from_low. rw (coefficient_at r a n from_low) (v (above a.low n)))

  pub coefficient-sum : (a b : Terms A) (n : ℤ) → HasValues IsValue r a → HasValues IsValue r b → n ≤ℤ upto a → n ≤ℤ upto b → coefficient r (series_sum r a b) n ≡ r.add (coefficient r a n) (coefficient r b n)
  coefficient-sum a b n va vb ha hb =
      let m = int_min n (int_min a.low b.low) in
      let mn : m ≤ℤ n = omega (arith, ints, clamps) in let ma : m ≤ℤ a.low = omega (arith, ints, clamps) in let mb : m ≤ℤ b.low = omega (arith, ints, clamps) in
      let ms : m ≤ℤ (series_sum r a b).low = omega (arith, ints, clamps) in
      let within : above m n < known m (series_sum r a b) = rw (known-sum laws m a b ma mb) (omega (arith, ints, above_is m n, above_is m a.low, above_is m b.low)) in
      coefficient-at_from r m n (series_sum r a b) mn ms
      ∙ from-sum laws m a b (above m n) va vb ma mb within
      ∙ rw (← coefficient-at_from r m n a mn ma, ← coefficient-at_from r m n b mn mb) refl

  -- counted from exponents at or below the lowest ones
  pub coefficient-product : (m m' : ℤ) (a b : Terms A) (k : ℕ) → HasValues IsValue r a → HasValues IsValue r b → m ≤ℤ a.low → m' ≤ℤ b.low → ((m +ℤ m') +ℤ pos k) ≤ℤ upto (series_product r a b) →
      coefficient r (series_product r a b) ((m +ℤ m') +ℤ pos k) ≡ convolution r (λ i. coefficient r a (m +ℤ pos i)) (λ j. coefficient r b (m' +ℤ pos j)) k
  coefficient-product m m' a b k va vb ha hb h =
      let below : (m +ℤ m') ≤ℤ (a.low +ℤ b.low) = omega (arith, ints) in
      let within : k < known (m +ℤ m') (series_product r a b) = omega (arith, ints, above_is (m +ℤ m') (a.low +ℤ b.low)) in
      coefficient-from r (m +ℤ m') (series_product r a b) k below
      ∙ from-product laws m m' a b k va vb ha hb within
      ∙ convolution-same r (from r m a) (λ i. coefficient r a (m +ℤ pos i)) (from r m' b) (λ j. coefficient r b (m' +ℤ pos j)) k (λ i _. sym (coefficient-from r m a i ha)) (λ j _. sym (coefficient-from r m' b j hb))

  pub coefficient-scale : (c : A) (a : Terms A) (n : ℤ) → IsValue c → n ≤ℤ upto a → coefficient r (series_scale r c a) n ≡ r.mul c (coefficient r a n)
  coefficient-scale c a n v h = by_lt_z n a.low
      (λ below. coefficient_below r (series_scale r c a) n below ∙ sym (ap (r.mul c) (coefficient_below r a n below) ∙ mul-nought laws c v))
      (λ from_low.
      let within : above a.low n < length a.coefficients = omega (arith, ints, above_is a.low n) in
      coefficient_at r (series_scale r c a) n from_low
      ∙ at-listed r (scaled r c (at r a.coefficients)) (length a.coefficients) (above a.low n) within
      ∙ scaled_is r c (at r a.coefficients) (above a.low n)
      ∙ ap (r.mul c) (sym (coefficient_at r a n from_low)))

pub coefficient-shift : {A : Type 0} (r : Operations A) (k : ℤ) (a : Terms A) (n : ℤ) → coefficient r (series_shift k a) (n +ℤ k) ≡ coefficient r a n
coefficient-shift r k a n = by_lt_z n a.low
    (λ below. coefficient_below r (series_shift k a) (n +ℤ k) (omega (arith, ints)) ∙ sym (coefficient_below r a n below))
    (λ from_low.
    let e : above (a.low +ℤ k) (n +ℤ k) ≡ above a.low n = omega (arith, ints, above_is (a.low +ℤ k) (n +ℤ k), above_is a.low n) in
    coefficient_at r (series_shift k a) (n +ℤ k) (omega (arith, ints)) ∙ ap (at r a.coefficients) e ∙ sym (coefficient_at r a n from_low))

-- beyond what is known there is nought
pub coefficient_beyond : {A : Type 0} (r : Operations A) (a : Terms A) (n : ℤ) → upto a <ℤ n → coefficient r a n ≡ r.nought
coefficient_beyond r a n h = by_lt_z n a.low
    (λ below. coefficient_below r a n below)
    (λ from_low. let past : length a.coefficients ≤ above a.low n = omega (arith, ints, above_is a.low n) in coefficient_at r a n from_low ∙ at_past r a.coefficients (above a.low n) past)
