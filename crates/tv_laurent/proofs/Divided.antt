-- The coefficients of a quotient: how they are found one after another, what they reach, and when one is too wide.
use Rattle.std.proofs.Common.{◌≡◌, ℕ, zero, suc, ◌+◌, ◌-◌, ◌*◌, ◌<◌, ◌≤◌, max, List, [], ◌∷◌, ◌++◌, length, refl, sym, ◌∙◌, ap, arith, inl, inr, suc-mul, add-mul}
use Rattle.std.proofs.lemmas.Bool.{cases_lt}
use Rattle.tv_ring.specs.Operations.{Operations, RingLaws, SizeLaws, limit, reach_limit}
use Rattle.tv_ring.specs.Sums.{AreValues, at, sum_below, term, convolution, total_below, size_term, size_convolution}
use Rattle.tv_ring.proofs.Rings.{nought-mul}
use Rattle.tv_ring.proofs.Sums.{sum_below-none, sum_below-more, value_sum, total_below-more, total_below-same}
use Rattle.tv_ring.proofs.Products.{term_is, size_term_is, convolution_is, size_convolution_is, value_term}
use Rattle.tv_ring.proofs.Sizes.{size-terms}
use Rattle.tv_laws_series.specs.Quotients.{owed, quotients}
use Rattle.tv_laws_series.proofs.Listed.{at_past}
use Rattle.tv_laws_series.specs.Polynomials.{greatest_below}
use Rattle.tv_laws_series.proofs.PolyReach.{greatest-none, greatest-more, greatest_bounds}
use Rattle.tv_laws_series.proofs.Quotients.{quotient, owed_is, length-quotients, at-quotients, value_quotient, value_quotients, quotient-next}
use Rattle.tv_laurent.specs.SeriesCalls.{ReachesAddUp}
use Rattle.tv_laurent.specs.QuotientCalls.{ReachesAddUpTimes, owed_size, quotient_size}

pub owed_size_is : {A : Type 0} (r : Operations A) (d g : ℕ → A) (k : ℕ) → owed_size r d g k ≡ total_below (size_term r d g k) k
unfolding owed_size
owed_size_is r d g k = refl

pub quotient_size_is : {A : Type 0} (r : Operations A) (f g d : ℕ → A) (k : ℕ) → quotient_size r f g d k ≡ r.size (f k) + owed_size r d g k
unfolding quotient_size
quotient_size_is r f g d k = refl

pub quotients-none : {A : Type 0} (r : Operations A) (f g : ℕ → A) → quotients r f g 0 ≡ []
unfolding quotients
quotients-none r f g = refl

-- one coefficient more
pub quotients-more : {A : Type 0} (r : Operations A) (f g : ℕ → A) (n : ℕ) → quotients r f g (suc n) ≡ quotients r f g n ++ r.add (f n) (r.neg (owed r (at r (quotients r f g n)) g n)) ∷ []
unfolding quotients
quotients-more r f g n = refl

pub quotients_push : {A : Type 0} (r : Operations A) (f g : ℕ → A) (n : ℕ) (old new : List A) (y x : A) → old ≡ quotients r f g n → new ≡ old ++ x ∷ [] → y ≡ f n → x ≡ r.add y (r.neg (owed r (at r old) g (length old))) → new ≡ quotients r f g (n + 1)
quotients_push r f g n old new y x before pushed ey ex =
    let e : n + 1 ≡ suc n = omega arith in let l : length old ≡ n = ap length before ∙ length-quotients r f g n in
    pushed ∙ rw (e, quotients-more r f g n, ex, l, ey, before) refl

-- the sizes of what is owed depend on the coefficients before alone
pub owed_size-same : {A : Type 0} (r : Operations A) (d e g : ℕ → A) (k : ℕ) → ((i : ℕ) → i < k → d i ≡ e i) → owed_size r d g k ≡ owed_size r e g k
owed_size-same r d e g k same = rw (owed_size_is r d g k, owed_size_is r e g k) (total_below-same (size_term r d g k) (size_term r e g k) k each) where
  each : (i : ℕ) → i < k → size_term r d g k i ≡ size_term r e g k i
  each i h = let p = same i h in rw (size_term_is r d g k i, size_term_is r e g k i, p) refl

-- a coefficient that is too wide after those that are found
pub found_wide : {A : Type 0} (r : Operations A) (f g : ℕ → A) (count k : ℕ) (found : List A) (y : A) → found ≡ quotients r f g k → k < count → y ≡ f k → limit < r.size y + owed_size r (at r found) g (length found) → limit < quotient_size r f g (at r (quotients r f g count)) k
found_wide r f g count k found y ef h ey wide =
    let l : length found ≡ k = ap length ef ∙ length-quotients r f g k in
    let same = owed_size-same r (at r found) (at r (quotients r f g count)) g k (λ i within. ap (λ xs. at r xs i) ef ∙ at-quotients r f g k i within ∙ sym (at-quotients r f g count i (omega arith))) in
    rw (quotient_size_is r f g (at r (quotients r f g count)) k, ← same, ← ey, ← l) wide

-- the greatest reach of a row
unfoldable row_reach : {A : Type 0} → Operations A → List A → ℕ
row_reach r xs = greatest_below (λ k. r.reach (at r xs k)) (length xs)

row_reach_is : {A : Type 0} (r : Operations A) (xs : List A) → row_reach r xs ≡ greatest_below (λ k. r.reach (at r xs k)) (length xs)
unfolding row_reach
row_reach_is r xs = refl

-- a multiple of the greatest is bounded as those of all are
greatest_times : (f : ℕ → ℕ) (n c m bound : ℕ) → c ≤ bound → ((k : ℕ) → k < n → c + m * f k ≤ bound) → c + m * greatest_below f n ≤ bound
greatest_times f zero c m bound h each = rw (greatest-none f) (omega arith)
greatest_times f (suc n) c m bound h each =
    let first = greatest_times f n c m bound h (λ k within. each k (omega arith)) in let last = each n (omega arith) in
    rw (greatest-more f n) (elim (cases_lt (greatest_below f n) (f n)) as (λ _. c + m * max (greatest_below f n) (f n) ≤ bound) [
      | inl less ↦ let e : max (greatest_below f n) (f n) ≡ f n = omega arith in rw e last
      | inr more ↦ let e : max (greatest_below f n) (f n) ≡ greatest_below f n = omega arith in rw e first
    ])

-- the greatest reaches add up as all do
rows_reach : {A : Type 0} (r : Operations A) (m : ℕ) (xs ys : List A) → 0 < length xs → 0 < length ys → ReachesAddUpTimes r m xs ys → row_reach r xs + m * row_reach r ys ≤ reach_limit
rows_reach r m xs ys some_x some_y reaches = let last = all_x in rw (row_reach_is r xs) (omega arith) where
  each_x : (i : ℕ) → i < length xs → r.reach (at r xs i) + m * row_reach r ys ≤ reach_limit
  each_x i h =
      let first = reaches i 0 h some_y in
      rw (row_reach_is r ys) (greatest_times (λ j. r.reach (at r ys j)) (length ys) (r.reach (at r xs i)) m reach_limit (omega arith) (λ j within. reaches i j h within))

  all_x : m * row_reach r ys + 1 * greatest_below (λ i. r.reach (at r xs i)) (length xs) ≤ reach_limit
  all_x =
      let first = each_x 0 some_x in
      greatest_times (λ i. r.reach (at r xs i)) (length xs) (m * row_reach r ys) 1 reach_limit (omega arith) (λ i h. let one = each_x i h in omega arith)

times_less : (i k s : ℕ) → i < k → i * s + s ≤ k * s
times_less i k s h = let d = k - suc i in let e : k ≡ suc i + d = omega arith in omega (arith, ap (λ n. n * s) e, add-mul (suc i) d s, suc-mul i s)

module _ {A : Type 0} {IsValue : A → Type 0} {r : Operations A} (laws : RingLaws IsValue r) (size_laws : SizeLaws IsValue r) where
  -- a product of what is found by the divisor is what is owed
  pub owed-found : (xs ys : List A) → AreValues IsValue (at r ys) → AreValues IsValue (at r xs) → convolution r (at r xs) (at r ys) (length xs) ≡ owed r (at r xs) (at r ys) (length xs)
  owed-found xs ys w v =
      let k = length xs in let f = term r (at r xs) (at r ys) k in
      let last : f k ≡ r.nought = term_is r (at r xs) (at r ys) k k ∙ rw (at_past r xs k (omega arith)) (nought-mul laws (at r ys (k - k)) (w (k - k))) in
      rw (convolution_is r (at r xs) (at r ys) k, sum_below-more r f k, last, owed_is r (at r xs) (at r ys) k) (laws.add-nought (sum_below r f k) (value_sum laws f k (value_term laws (at r xs) (at r ys) k v w)))

  pub size-found : (xs ys : List A) → size_convolution r (at r xs) (at r ys) (length xs) ≡ owed_size r (at r xs) (at r ys) (length xs)
  size-found xs ys =
      let k = length xs in let f = size_term r (at r xs) (at r ys) k in
      let last : f k ≡ 0 = size_term_is r (at r xs) (at r ys) k k ∙ rw (at_past r xs k (omega arith), size_laws.size-nought) (omega arith) in
      rw (size_convolution_is r (at r xs) (at r ys) k, total_below-more f k, last, owed_size_is r (at r xs) (at r ys) k) (omega arith)

  -- a difference that is too wide
  pub difference_wide : (y x : A) (xs ys : List A) → AreValues IsValue (at r xs) → AreValues IsValue (at r ys) → x ≡ r.neg (owed r (at r xs) (at r ys) (length xs)) → limit < r.size y + r.size x → limit < r.size y + owed_size r (at r xs) (at r ys) (length xs)
  difference_wide y x xs ys v w e wide =
      let k = length xs in let o = owed r (at r xs) (at r ys) k in
      let value = value_sum laws (term r (at r xs) (at r ys) k) k (value_term laws (at r xs) (at r ys) k v w) in
      let z : r.size x ≡ r.size o = rw e (size_laws.size-neg o (rw (owed_is r (at r xs) (at r ys) k) value)) in
      let most : r.size o ≤ owed_size r (at r xs) (at r ys) k = rw (owed_is r (at r xs) (at r ys) k, owed_size_is r (at r xs) (at r ys) k) (size-terms laws size_laws (at r xs) (at r ys) k k v w) in
      omega arith

  -- each coefficient reaches at most the reach of its row
  row_reach_bounds : (xs : List A) (k : ℕ) → r.reach (at r xs k) ≤ row_reach r xs
  unfolding row_reach
  row_reach_bounds xs k = elim (cases_lt k (length xs)) as (λ _. r.reach (at r xs k) ≤ row_reach r xs) [
    | inl h ↦ greatest_bounds (λ i. r.reach (at r xs i)) (length xs) k h
    | inr h ↦ rw (at_past r xs k h, size_laws.reach-nought) (omega arith)
  ]

  reach-sum : (f : ℕ → A) (n bound : ℕ) → AreValues IsValue f → ((i : ℕ) → i < n → r.reach (f i) ≤ bound) → r.reach (sum_below r f n) ≤ bound
  reach-sum f zero bound v each = rw (sum_below-none r f, size_laws.reach-nought) (omega arith)
  reach-sum f (suc n) bound v each =
      let first = reach-sum f n bound v (λ i h. each i (omega arith)) in let last = each n (omega arith) in
      let both = size_laws.reach-add (sum_below r f n) (f n) (value_sum laws f n v) (v n) in
      rw (sum_below-more r f n) (omega arith)

  -- the reach of the divisor once for each coefficient before
  reach-first : (f g : ℕ → A) (top step n k : ℕ) → AreValues IsValue f → AreValues IsValue g → ((i : ℕ) → r.reach (f i) ≤ top) → ((i : ℕ) → r.reach (g i) ≤ step) → k < n → r.reach (quotient r f g k) ≤ top + k * step
  reach-first f g top step zero k v w hf hg h = absurd (omega arith)
  reach-first f g top step (suc n) k v w hf hg h =
      let d = quotient r f g in let vd = value_quotient laws f g v w in let t = term r d g k in let vt = value_term laws d g k vd w in
      let o = sum_below r t k in let vo = value_sum laws t k vt in
      let before : r.reach o ≤ top + k * step = reach-sum t k (top + k * step) vt (λ i within.
      let one = reach-first f g top step n i v w hf hg (omega arith) in let both = size_laws.reach-mul (d i) (g (k - i)) (vd i) (w (k - i)) in
      let other = hg (k - i) in let less = times_less i k step within in rw (term_is r d g k i) (omega arith)) in
      let here = hf k in let sum = size_laws.reach-add (f k) (r.neg o) (v k) (laws.value_neg o vo) in let n = size_laws.reach-neg o vo in
      rw (quotient-next r f g k, owed_is r d g k) (omega arith)

  pub reach-quotient : (f g : ℕ → A) (top step k : ℕ) → AreValues IsValue f → AreValues IsValue g → ((i : ℕ) → r.reach (f i) ≤ top) → ((i : ℕ) → r.reach (g i) ≤ step) → r.reach (quotient r f g k) ≤ top + k * step
  reach-quotient f g top step k v w hf hg = reach-first f g top step (suc k) k v w hf hg (omega arith)

  -- what is found may be multiplied by the divisor
  pub found_reaches : (xs ys found : List A) (count k : ℕ) → AreValues IsValue (at r xs) → AreValues IsValue (at r ys) → count ≤ length xs → ReachesAddUpTimes r count xs ys → found ≡ quotients r (at r xs) (at r ys) k → k < count → ReachesAddUp r found ys
  found_reaches xs ys found count k v w within_xs reaches e h i j hi hj =
      let f = at r xs in let g = at r ys in let top = row_reach r xs in let step = row_reach r ys in
      let l : length found ≡ k = ap length e ∙ length-quotients r f g k in let within : i < k = omega arith in
      let q = reach-quotient f g top step i v w (row_reach_bounds xs) (row_reach_bounds ys) in let other = row_reach_bounds ys j in
      let s : at r found i ≡ quotient r f g i = ap (λ zs. at r zs i) e ∙ at-quotients r f g k i within in
      let less = times_less i count step (omega arith) in let both = rows_reach r count xs ys (omega arith) (omega arith) reaches in
      rw s (omega arith)

  pub value_found : (xs ys found : List A) (k : ℕ) → AreValues IsValue (at r xs) → AreValues IsValue (at r ys) → found ≡ quotients r (at r xs) (at r ys) k → AreValues IsValue (at r found)
  value_found xs ys found k v w e = rw e (value_quotients laws (at r xs) (at r ys) k v w)
