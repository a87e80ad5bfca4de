-- The coefficients of sums, products and negatives of polynomials, counted from any exponent at or below their lows.
use Rattle.std.proofs.Common.{◌≡◌, ℕ, suc, ◌+◌, ◌-◌, ◌<◌, ◌≤◌, max, ℤ, pos, ◌+ℤ◌, ◌≤ℤ◌, List, length, refl, sym, ◌∙◌, ap, arith, inl, inr}
use Rattle.std.specs.Int.{int_min}
use Rattle.std.proofs.lemmas.Int.{ints, clamps}
use Rattle.std.proofs.lemmas.Bool.{cases_lt}
use Rattle.tv_ring.specs.Operations.{Operations, RingLaws}
use Rattle.tv_ring.specs.Sums.{AreValues, at, term, convolution}
use Rattle.tv_ring.proofs.Rings.{mul-nought, nought-mul, neg-nought}
use Rattle.tv_ring.proofs.Sums.{sum-nought}
use Rattle.tv_ring.proofs.Products.{term_is, convolution_is, convolution-same, value_convolution}
use Rattle.tv_laws_series.specs.Terms.{Terms, terms, above, padded, from, known, listed, plus}
use Rattle.tv_laws_series.specs.Polynomials.{negatives, IsPoly, poly_sum, poly_product, poly_negative}
use Rattle.tv_laws_series.proofs.Exponents.{above-+ℤ}
use Rattle.tv_laws_series.proofs.Listed.{length-listed, at-listed, at_past}
use Rattle.tv_laws_series.proofs.Padded.{padded_before, padded_after, padded-same, plus_is, value_plus, padded-plus, padded-both}
use Rattle.tv_laws_series.proofs.SeriesFrom.{from_is, from_lower, value_listed, value_from}
use Rattle.tv_laws_series.proofs.NormalForm.{from_past, from-normal, normal_is_poly, normal_low}

pub negatives_is : {A : Type 0} (r : Operations A) (f : ℕ → A) (k : ℕ) → negatives r f k ≡ r.neg (f k)
unfolding negatives
negatives_is r f k = refl

module _ {A : Type 0} {IsValue : A → Type 0} {r : Operations A} (laws : RingLaws IsValue r) where
  pub value_negatives : (f : ℕ → A) → AreValues IsValue f → AreValues IsValue (negatives r f)
  value_negatives f v k = rw (negatives_is r f k) (laws.value_neg (f k) (v k))

  -- a sequence that is nought from n on is that of its first n terms
  at-listed_all : (f : ℕ → A) (n k : ℕ) → ((i : ℕ) → n ≤ i → f i ≡ r.nought) → at r (listed f n) k ≡ f k
  at-listed_all f n k e = elim (cases_lt k n) as (λ _. at r (listed f n) k ≡ f k) [
    | inl h ↦ at-listed r f n k h
    | inr h ↦ at_past r (listed f n) k (let l = length-listed f n in omega arith) ∙ sym (e k h)
  ]

  -- ---- sums

  sum_past : (m : ℤ) (p q : Terms A) (k : ℕ) → max (known m p) (known m q) ≤ k → plus r (from r m p) (from r m q) k ≡ r.nought
  sum_past m p q k h = let a = from_past laws m p k (omega arith) in let b = from_past laws m q k (omega arith) in
      rw (plus_is r (from r m p) (from r m q) k, a, b) (laws.add-nought r.nought laws.value_nought)

  pub value_sum_row : (m : ℤ) (p q : Terms A) (n : ℕ) → AreValues IsValue (at r p.coefficients) → AreValues IsValue (at r q.coefficients) → AreValues IsValue (at r (listed (plus r (from r m p) (from r m q)) n))
  value_sum_row m p q n vp vq = value_listed laws (plus r (from r m p) (from r m q)) n (value_plus laws (from r m p) (from r m q) (value_from laws m p vp) (value_from laws m q vq))

  pub sum_is_poly : (p q : Terms A) → AreValues IsValue (at r p.coefficients) → AreValues IsValue (at r q.coefficients) → IsPoly IsValue r (poly_sum r p q)
  sum_is_poly p q vp vq = let m = int_min p.low q.low in normal_is_poly laws m (listed (plus r (from r m p) (from r m q)) (max (known m p) (known m q))) (value_sum_row m p q (max (known m p) (known m q)) vp vq)

  pub sum_low : (m : ℤ) (p q : Terms A) → m ≤ℤ p.low → m ≤ℤ q.low → m ≤ℤ pos 0 → m ≤ℤ (poly_sum r p q).low
  sum_low m p q hp hq z = let l = int_min p.low q.low in normal_low laws m l (listed (plus r (from r l p) (from r l q)) (max (known l p) (known l q))) (omega (arith, ints, clamps)) z

  pub from-poly_sum : (m : ℤ) (p q : Terms A) (k : ℕ) → AreValues IsValue (at r p.coefficients) → AreValues IsValue (at r q.coefficients) → m ≤ℤ p.low → m ≤ℤ q.low → from r m (poly_sum r p q) k ≡ r.add (from r m p k) (from r m q k)
  from-poly_sum m p q k vp vq hp hq =
      let l = int_min p.low q.low in let f = plus r (from r l p) (from r l q) in let n = max (known l p) (known l q) in
      let ml : m ≤ℤ l = omega (arith, ints, clamps) in let lp : l ≤ℤ p.low = omega (arith, ints, clamps) in let lq : l ≤ℤ q.low = omega (arith, ints, clamps) in
      from-normal laws m l (listed f n) k ml (value_sum_row l p q n vp vq)
      ∙ from_is r m (terms l (listed f n)) k
      ∙ padded-same r (above m l) (at r (listed f n)) f k (λ i _. at-listed_all f n i (λ j h. sum_past l p q j h))
      ∙ padded-plus laws (above m l) (from r l p) (from r l q) k
      ∙ plus_is r (padded r (above m l) (from r l p)) (padded r (above m l) (from r l q)) k
      ∙ rw (from_lower r m l p k ml lp, from_lower r m l q k ml lq) refl

  -- ---- products

  product_past : (xs ys : List A) (k : ℕ) → AreValues IsValue (at r xs) → AreValues IsValue (at r ys) → length xs + length ys - 1 ≤ k → convolution r (at r xs) (at r ys) k ≡ r.nought
  product_past xs ys k v w h = convolution_is r (at r xs) (at r ys) k ∙ sum-nought laws (term r (at r xs) (at r ys) k) (suc k) each where
    each : (i : ℕ) → i < suc k → term r (at r xs) (at r ys) k i ≡ r.nought
    each i within = term_is r (at r xs) (at r ys) k i ∙ elim (cases_lt i (length xs)) as (λ _. r.mul (at r xs i) (at r ys (k - i)) ≡ r.nought) [
      | inl here ↦ rw (at_past r ys (k - i) (omega arith)) (mul-nought laws (at r xs i) (v i))
      | inr past ↦ rw (at_past r xs i past) (nought-mul laws (at r ys (k - i)) (w (k - i)))
    ]

  pub value_product_row : (p q : Terms A) (n : ℕ) → AreValues IsValue (at r p.coefficients) → AreValues IsValue (at r q.coefficients) → AreValues IsValue (at r (listed (convolution r (at r p.coefficients) (at r q.coefficients)) n))
  value_product_row p q n vp vq = value_listed laws (convolution r (at r p.coefficients) (at r q.coefficients)) n (value_convolution laws (at r p.coefficients) (at r q.coefficients) vp vq)

  pub product_is_poly : (p q : Terms A) → AreValues IsValue (at r p.coefficients) → AreValues IsValue (at r q.coefficients) → IsPoly IsValue r (poly_product r p q)
  product_is_poly p q vp vq = let n = length p.coefficients + length q.coefficients - 1 in
      normal_is_poly laws (p.low +ℤ q.low) (listed (convolution r (at r p.coefficients) (at r q.coefficients)) n) (value_product_row p q n vp vq)

  pub product_low : (m m' : ℤ) (p q : Terms A) → m ≤ℤ p.low → m' ≤ℤ q.low → m ≤ℤ pos 0 → m' ≤ℤ pos 0 → (m +ℤ m') ≤ℤ (poly_product r p q).low
  product_low m m' p q hp hq z z' = normal_low laws (m +ℤ m') (p.low +ℤ q.low) (listed (convolution r (at r p.coefficients) (at r q.coefficients)) (length p.coefficients + length q.coefficients - 1)) (omega (arith, ints)) (omega (arith, ints))

  pub from-poly_product : (m m' : ℤ) (p q : Terms A) (k : ℕ) → AreValues IsValue (at r p.coefficients) → AreValues IsValue (at r q.coefficients) → m ≤ℤ p.low → m' ≤ℤ q.low → from r (m +ℤ m') (poly_product r p q) k ≡ convolution r (from r m p) (from r m' q) k
  from-poly_product m m' p q k vp vq hp hq =
      let f = convolution r (at r p.coefficients) (at r q.coefficients) in let n = length p.coefficients + length q.coefficients - 1 in
      let l = p.low +ℤ q.low in let d = above m p.low in let e = above m' q.low in
      from-normal laws (m +ℤ m') l (listed f n) k (omega (arith, ints)) (value_product_row p q n vp vq)
      ∙ from_is r (m +ℤ m') (terms l (listed f n)) k
      ∙ padded-same r (above (m +ℤ m') l) (at r (listed f n)) f k (λ i _. at-listed_all f n i (λ j h. product_past p.coefficients q.coefficients j vp vq h))
      ∙ ap (λ z. padded r z f k) (above-+ℤ m p.low m' q.low hp hq)
      ∙ sym (padded-both laws d e (at r p.coefficients) (at r q.coefficients) k vp vq)
      ∙ convolution-same r (padded r d (at r p.coefficients)) (from r m p) (padded r e (at r q.coefficients)) (from r m' q) k (λ i _. sym (from_is r m p i)) (λ i _. sym (from_is r m' q i))

  -- ---- negatives

  pub negative_is_poly : (p : Terms A) → AreValues IsValue (at r p.coefficients) → IsPoly IsValue r (poly_negative r p)
  negative_is_poly p v = let f = negatives r (at r p.coefficients) in normal_is_poly laws p.low (listed f (length p.coefficients)) (value_listed laws f (length p.coefficients) (value_negatives (at r p.coefficients) v))

  pub negative_low : (m : ℤ) (p : Terms A) → m ≤ℤ p.low → m ≤ℤ pos 0 → m ≤ℤ (poly_negative r p).low
  negative_low m p h z = normal_low laws m p.low (listed (negatives r (at r p.coefficients)) (length p.coefficients)) h z

  padded-negatives : (d : ℕ) (f : ℕ → A) (k : ℕ) → padded r d (negatives r f) k ≡ r.neg (padded r d f k)
  padded-negatives d f k = elim (cases_lt k d) as (λ _. padded r d (negatives r f) k ≡ r.neg (padded r d f k)) [
    | inl h ↦ padded_before r d (negatives r f) k h ∙ sym (ap r.neg (padded_before r d f k h) ∙ neg-nought laws)
    | inr h ↦ padded_after r d (negatives r f) k h ∙ negatives_is r f (k - d) ∙ sym (ap r.neg (padded_after r d f k h))
  ]

  pub from-poly_negative : (m : ℤ) (p : Terms A) (k : ℕ) → AreValues IsValue (at r p.coefficients) → m ≤ℤ p.low → from r m (poly_negative r p) k ≡ r.neg (from r m p k)
  from-poly_negative m p k v h =
      let xs = p.coefficients in let f = negatives r (at r xs) in let n = length xs in
      from-normal laws m p.low (listed f n) k h (value_listed laws f n (value_negatives (at r xs) v))
      ∙ from_is r m (terms p.low (listed f n)) k
      ∙ padded-same r (above m p.low) (at r (listed f n)) f k (λ i _. at-listed_all f n i (λ j past. negatives_is r (at r xs) j ∙ ap r.neg (at_past r xs j past) ∙ neg-nought laws))
      ∙ padded-negatives (above m p.low) (at r xs) k
      ∙ sym (ap r.neg (from_is r m p k))
