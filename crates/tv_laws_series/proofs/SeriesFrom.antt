-- The coefficients of sums and products of series, counted from any exponent at or below their lows.
use Rattle.std.proofs.Common.{◌≡◌, ℕ, ◌+◌, ◌<◌, ◌≤◌, min, ℤ, ◌+ℤ◌, ◌≤ℤ◌, List, length, refl, sym, ◌∙◌, ap, arith, inl, inr}
use Rattle.std.specs.Int.{int_min}
use Rattle.std.proofs.lemmas.Int.{ints, clamps}
use Rattle.std.proofs.lemmas.Bool.{cases_lt}
use Rattle.tv_ring.specs.Operations.{Operations, RingLaws}
use Rattle.tv_ring.specs.Sums.{AreValues, at, convolution}
use Rattle.tv_ring.proofs.Products.{convolution-same, value_convolution}
use Rattle.tv_laws_series.specs.Terms.{Terms, terms, above, padded, from, known, listed, plus}
use Rattle.tv_laws_series.specs.Series.{series_sum, series_product}
use Rattle.tv_laws_series.proofs.Exponents.{above_is, above_same, above_over, above-+ℤ}
use Rattle.tv_laws_series.proofs.Listed.{length-listed, at-listed, at_past, same_listed}
use Rattle.tv_laws_series.proofs.Padded.{padded_zero, padded-same, padded-padded, plus_is, value_padded, value_plus, padded-plus, padded-both}

pub from_is : {A : Type 0} (r : Operations A) (m : ℤ) (t : Terms A) (k : ℕ) → from r m t k ≡ padded r (above m t.low) (at r t.coefficients) k
unfolding from
from_is r m t k = refl

pub terms-same : {A : Type 0} (l l' : ℤ) (xs ys : List A) → l ≡ l' → xs ≡ ys → terms l xs ≡ terms l' ys
terms-same l l' xs ys e e' = ap (λ n. terms n xs) e ∙ ap (λ zs. terms l' zs) e'

-- from the lowest exponent on
pub from_low : {A : Type 0} (r : Operations A) (t : Terms A) (k : ℕ) → from r t.low t k ≡ at r t.coefficients k
from_low r t k = let e = above_same t.low in rw (from_is r t.low t k, e) (padded_zero r (at r t.coefficients) k)

-- from a lower exponent on
pub from_lower : {A : Type 0} (r : Operations A) (m l : ℤ) (t : Terms A) (k : ℕ) → m ≤ℤ l → l ≤ℤ t.low → padded r (above m l) (from r l t) k ≡ from r m t k
from_lower r m l t k h h' =
    padded-same r (above m l) (from r l t) (padded r (above l t.low) (at r t.coefficients)) k (λ i _. from_is r l t i)
    ∙ padded-padded r (above m l) (above l t.low) (at r t.coefficients) k
    ∙ ap (λ d. padded r d (at r t.coefficients) k) (above_over m l t.low h h')
    ∙ sym (from_is r m t k)

-- equal lows, equal known orders, equal coefficients
pub same_terms : {A : Type 0} (r : Operations A) (m : ℤ) (a b : Terms A) → a.low ≡ m → b.low ≡ m → known m a ≡ known m b → ((k : ℕ) → k < known m a → from r m a k ≡ from r m b k) → a ≡ b
same_terms r m a b ea eb n each = terms-same a.low b.low a.coefficients b.coefficients (ea ∙ sym eb) (same_listed r a.coefficients b.coefficients lengths places) where
  lengths : length a.coefficients ≡ length b.coefficients
  lengths = let p : above m a.low ≡ 0 = rw ea (above_same m) in let q : above m b.low ≡ 0 = rw eb (above_same m) in omega arith

  places : (k : ℕ) → k < length b.coefficients → at r a.coefficients k ≡ at r b.coefficients k
  places k h =
      let p : from r m a k ≡ at r a.coefficients k = rw (← ea) (from_low r a k) in let q : from r m b k ≡ at r b.coefficients k = rw (← eb) (from_low r b k) in
      sym p ∙ each k (let z = lengths in omega arith) ∙ q

module _ {A : Type 0} {IsValue : A → Type 0} {r : Operations A} (laws : RingLaws IsValue r) where
  pub value_listed : (f : ℕ → A) (n : ℕ) → AreValues IsValue f → AreValues IsValue (at r (listed f n))
  value_listed f n v k = elim (cases_lt k n) as (λ _. IsValue (at r (listed f n) k)) [
    | inl h ↦ rw (at-listed r f n k h) (v k)
    | inr h ↦ let e : length (listed f n) ≤ k = omega (arith, length-listed f n) in rw (at_past r (listed f n) k e) laws.value_nought
  ]

  pub value_from : (m : ℤ) (t : Terms A) → AreValues IsValue (at r t.coefficients) → AreValues IsValue (from r m t)
  value_from m t v k = rw (from_is r m t k) (value_padded laws (above m t.low) (at r t.coefficients) v k)

  pub known-sum : (m : ℤ) (a b : Terms A) → m ≤ℤ a.low → m ≤ℤ b.low → known m (series_sum r a b) ≡ min (known m a) (known m b)
  known-sum m a b ha hb = let l = int_min a.low b.low in
      rw (length-listed (plus r (from r l a) (from r l b)) (min (known l a) (known l b)))
      (omega (arith, ints, clamps, above_is m a.low, above_is m b.low, above_is m l, above_is l a.low, above_is l b.low))

  pub from-sum : (m : ℤ) (a b : Terms A) (k : ℕ) → AreValues IsValue (at r a.coefficients) → AreValues IsValue (at r b.coefficients) → m ≤ℤ a.low → m ≤ℤ b.low → k < known m (series_sum r a b) → from r m (series_sum r a b) k ≡ r.add (from r m a k) (from r m b k)
  from-sum m a b k va vb ha hb h =
      let l = int_min a.low b.low in let f = plus r (from r l a) (from r l b) in let n = min (known l a) (known l b) in
      let ml : m ≤ℤ l = omega (arith, ints, clamps) in let la : l ≤ℤ a.low = omega (arith, ints, clamps) in let lb : l ≤ℤ b.low = omega (arith, ints, clamps) in
      from_is r m (series_sum r a b) k
      ∙ padded-same r (above m l) (at r (listed f n)) f k (λ i within. at-listed r f n i (let e = length-listed f n in omega arith))
      ∙ padded-plus laws (above m l) (from r l a) (from r l b) k
      ∙ plus_is r (padded r (above m l) (from r l a)) (padded r (above m l) (from r l b)) k
      ∙ rw (from_lower r m l a k ml la, from_lower r m l b k ml lb) refl

  pub known-product : (m m' : ℤ) (a b : Terms A) → m ≤ℤ a.low → m' ≤ℤ b.low → known (m +ℤ m') (series_product r a b) ≡ min (known m a + above m' b.low) (known m' b + above m a.low)
  known-product m m' a b ha hb =
      rw (length-listed (convolution r (at r a.coefficients) (at r b.coefficients)) (min (length a.coefficients) (length b.coefficients)), above-+ℤ m a.low m' b.low ha hb) (omega arith)

  pub from-product : (m m' : ℤ) (a b : Terms A) (k : ℕ) → AreValues IsValue (at r a.coefficients) → AreValues IsValue (at r b.coefficients) → m ≤ℤ a.low → m' ≤ℤ b.low → k < known (m +ℤ m') (series_product r a b) → from r (m +ℤ m') (series_product r a b) k ≡ convolution r (from r m a) (from r m' b) k
  from-product m m' a b k va vb ha hb h =
      let f = convolution r (at r a.coefficients) (at r b.coefficients) in let n = min (length a.coefficients) (length b.coefficients) in
      let d = above m a.low in let e = above m' b.low in
      from_is r (m +ℤ m') (series_product r a b) k
      ∙ padded-same r (above (m +ℤ m') (a.low +ℤ b.low)) (at r (listed f n)) f k (λ i within. at-listed r f n i (let e = length-listed f n in omega arith))
      ∙ ap (λ z. padded r z f k) (above-+ℤ m a.low m' b.low ha hb)
      ∙ sym (padded-both laws d e (at r a.coefficients) (at r b.coefficients) k va vb)
      ∙ convolution-same r (padded r d (at r a.coefficients)) (from r m a) (padded r e (at r b.coefficients)) (from r m' b) k (λ i _. sym (from_is r m a i)) (λ i _. sym (from_is r m' b i))

  pub value_series_sum : (a b : Terms A) → AreValues IsValue (at r a.coefficients) → AreValues IsValue (at r b.coefficients) → AreValues IsValue (at r (series_sum r a b).coefficients)
  value_series_sum a b va vb = let l = int_min a.low b.low in
      value_listed (plus r (from r l a) (from r l b)) (min (known l a) (known l b)) (value_plus laws (from r l a) (from r l b) (value_from l a va) (value_from l b vb))

  pub value_series_product : (a b : Terms A) → AreValues IsValue (at r a.coefficients) → AreValues IsValue (at r b.coefficients) → AreValues IsValue (at r (series_product r a b).coefficients)
  value_series_product a b va vb = value_listed (convolution r (at r a.coefficients) (at r b.coefficients)) (min (length a.coefficients) (length b.coefficients)) (value_convolution laws (at r a.coefficients) (at r b.coefficients) va vb)

  -- the same at an exponent that is the sum of both
  pub known-product_at : (n m m' : ℤ) (a b : Terms A) → n ≡ m +ℤ m' → m ≤ℤ a.low → m' ≤ℤ b.low → known n (series_product r a b) ≡ min (known m a + above m' b.low) (known m' b + above m a.low)
  known-product_at n m m' a b e ha hb = rw e (known-product m m' a b ha hb)

  pub from-product_at : (n m m' : ℤ) (a b : Terms A) (k : ℕ) → n ≡ m +ℤ m' → AreValues IsValue (at r a.coefficients) → AreValues IsValue (at r b.coefficients) → m ≤ℤ a.low → m' ≤ℤ b.low → k < known n (series_product r a b) → from r n (series_product r a b) k ≡ convolution r (from r m a) (from r m' b) k
  from-product_at n m m' a b k e va vb ha hb h = let h' : k < known (m +ℤ m') (series_product r a b) = rw e at h in rw e (from-product m m' a b k va vb ha hb h')
