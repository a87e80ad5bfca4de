-- The reaches of polynomials: of sums, products and negatives.
use Rattle.std.proofs.Common.{◌≡◌, ℕ, zero, suc, ◌+◌, ◌-◌, ◌<◌, ◌≤◌, max, ℤ, pos, ◌+ℤ◌, ◌≤ℤ◌, unsigned_abs, true, false, if◌then◌else◌, [], ◌∷◌, length, refl, sym, ◌∙◌, ap, arith, inl, inr}
use Rattle.std.specs.Int.{int_min}
use Rattle.std.proofs.lemmas.Int.{ints, clamps}
use Rattle.std.proofs.lemmas.Bool.{cases_lt}
use Rattle.tv_ring.specs.Operations.{Operations, RingLaws, SizeLaws}
use Rattle.tv_ring.specs.Sums.{AreValues, at, sum_below, term}
use Rattle.tv_ring.proofs.Rings.{nought-add, mul-nought, nought-mul, neg-nought, neg-neg}
use Rattle.tv_ring.proofs.Sums.{sum_below-none, sum_below-more, value_sum}
use Rattle.tv_ring.proofs.Products.{term_is, value_term, convolution_is}
use Rattle.tv_laws_series.specs.Terms.{Terms, above, from, known}
use Rattle.tv_laws_series.specs.Polynomials.{IsPoly, reach_at, greatest_below, poly_reach, poly_zero, poly_one, poly_sum, poly_product, poly_negative}
use Rattle.tv_laws_series.proofs.Exponents.{above_is}
use Rattle.tv_laws_series.proofs.SeriesFrom.{value_from}
use Rattle.tv_laws_series.proofs.NormalForm.{at-nil, at-first, at-next, bool_cases, not_nought, from_place, from_below, from_past}
use Rattle.tv_laws_series.proofs.PolyFrom.{sum_low, from-poly_sum, product_low, from-poly_product, negative_is_poly, negative_low, from-poly_negative}
use Rattle.tv_laws_series.proofs.PolyRing.{poly_laws, one_low, from-one}

-- the exponent e and the reach of x, where x is not nought
abbrev pub Reaches : {A : Type 0} → Operations A → ℤ → A → ℕ → Type 0
Reaches r e x bound = r.is_nought x ≡ false → unsigned_abs e + r.reach x ≤ bound

pub greatest-none : (f : ℕ → ℕ) → greatest_below f 0 ≡ 0
unfolding greatest_below
greatest-none f = refl

pub greatest-more : (f : ℕ → ℕ) (n : ℕ) → greatest_below f (suc n) ≡ max (greatest_below f n) (f n)
unfolding greatest_below
greatest-more f n = refl

-- a bound of each is one of the greatest
pub greatest_least : (f : ℕ → ℕ) (n bound : ℕ) → ((k : ℕ) → k < n → f k ≤ bound) → greatest_below f n ≤ bound
greatest_least f zero bound h = rw (greatest-none f) (omega arith)
greatest_least f (suc n) bound h =
    let rest = greatest_least f n bound (λ k within. h k (omega arith)) in let here = h n (omega arith) in rw (greatest-more f n) (omega arith)

pub greatest_bounds : (f : ℕ → ℕ) (n k : ℕ) → k < n → f k ≤ greatest_below f n
greatest_bounds f zero k h = absurd (omega arith)
greatest_bounds f (suc n) k h = elim (cases_lt k n) as (λ _. f k ≤ greatest_below f (suc n)) [
  | inl less ↦ let rest = greatest_bounds f n k less in rw (greatest-more f n) (omega arith)
  | inr last ↦ let e : k ≡ n = omega arith in rw (e, greatest-more f n) (omega arith)
]

reach_at_is : {A : Type 0} (r : Operations A) (low : ℤ) (f : ℕ → A) (k : ℕ) → reach_at r low f k ≡ (if r.is_nought (f k) then 0 else unsigned_abs (low +ℤ pos k) + r.reach (f k))
unfolding reach_at
reach_at_is r low f k = refl

pub reach_at_nought : {A : Type 0} (r : Operations A) (low : ℤ) (f : ℕ → A) (k : ℕ) → r.is_nought (f k) ≡ true → reach_at r low f k ≡ 0
reach_at_nought r low f k e = reach_at_is r low f k ∙ rw e refl

pub reach_at_here : {A : Type 0} (r : Operations A) (low : ℤ) (f : ℕ → A) (k : ℕ) → r.is_nought (f k) ≡ false → reach_at r low f k ≡ unsigned_abs (low +ℤ pos k) + r.reach (f k)
reach_at_here r low f k e = reach_at_is r low f k ∙ rw e refl

pub poly_reach_is : {A : Type 0} (r : Operations A) (p : Terms A) → poly_reach r p ≡ greatest_below (reach_at r p.low (at r p.coefficients)) (length p.coefficients)
unfolding poly_reach
poly_reach_is r p = refl

module _ {A : Type 0} {IsValue : A → Type 0} {r : Operations A} (laws : RingLaws IsValue r) (size_laws : SizeLaws IsValue r) where
  -- ---- what the reach bounds, and what bounds it

  pub at_reaches : (p : Terms A) (k : ℕ) → k < length p.coefficients → Reaches r (p.low +ℤ pos k) (at r p.coefficients k) (poly_reach r p)
  at_reaches p k h e =
      let f = reach_at r p.low (at r p.coefficients) in
      let here = reach_at_here r p.low (at r p.coefficients) k e in let most = greatest_bounds f (length p.coefficients) k h in
      rw (poly_reach_is r p) (omega arith)

  from_reaches : (m : ℤ) (p : Terms A) (k : ℕ) → m ≤ℤ p.low → Reaches r (m +ℤ pos k) (from r m p k) (poly_reach r p)
  from_reaches m p k h e = elim (cases_lt k (above m p.low)) as (λ _. unsigned_abs (m +ℤ pos k) + r.reach (from r m p k) ≤ poly_reach r p) [
    | inl below ↦ absurd (not_nought laws (from r m p k) (from_below laws m p k below) e)
    | inr fine ↦ elim (cases_lt k (known m p)) as (λ _. unsigned_abs (m +ℤ pos k) + r.reach (from r m p k) ≤ poly_reach r p) [
      | inr past ↦ absurd (not_nought laws (from r m p k) (from_past laws m p k past) e)
      | inl within ↦ at_place (k - above m p.low) (omega arith) (omega arith)
    ]
  ] where
    at_place : (i : ℕ) → above m p.low + i ≡ k → i < length p.coefficients → unsigned_abs (m +ℤ pos k) + r.reach (from r m p k) ≤ poly_reach r p
    at_place i n within =
        let place : from r m p k ≡ at r p.coefficients i = ap (from r m p) (sym n) ∙ from_place laws m p i in
        let e' : r.is_nought (at r p.coefficients i) ≡ false = rw place at e in
        let there : p.low +ℤ pos i ≡ m +ℤ pos k = omega (arith, ints, above_is m p.low) in
        let bound : unsigned_abs (p.low +ℤ pos i) + r.reach (at r p.coefficients i) ≤ poly_reach r p = at_reaches p i within e' in
        rw (← there, place) bound

  reach_least : (m : ℤ) (p : Terms A) (bound : ℕ) → m ≤ℤ p.low → ((k : ℕ) → Reaches r (m +ℤ pos k) (from r m p k) bound) → poly_reach r p ≤ bound
  reach_least m p bound h each = rw (poly_reach_is r p) (greatest_least (reach_at r p.low (at r p.coefficients)) (length p.coefficients) bound (λ i within. bool_cases (r.is_nought (at r p.coefficients i))
      (λ e. let z = reach_at_nought r p.low (at r p.coefficients) i e in omega arith)
      (λ e.
      let d = above m p.low in let place = from_place laws m p i in
      let e' : r.is_nought (from r m p (d + i)) ≡ false = rw place e in
      let there : m +ℤ pos (d + i) ≡ p.low +ℤ pos i = omega (arith, ints, above_is m p.low) in
      let most : unsigned_abs (m +ℤ pos (d + i)) + r.reach (from r m p (d + i)) ≤ bound = each (d + i) e' in
      let most' : unsigned_abs (p.low +ℤ pos i) + r.reach (at r p.coefficients i) ≤ bound = rw (there, place) at most in
      rw (reach_at_here r p.low (at r p.coefficients) i e) most')))

  -- ---- sums and products of coefficients

  sum_reaches : (e : ℤ) (x y : A) (bound : ℕ) → IsValue x → IsValue y → Reaches r e x bound → Reaches r e y bound → Reaches r e (r.add x y) bound
  sum_reaches e x y bound vx vy hx hy here = bool_cases (r.is_nought x)
      (λ b. let z : r.add x y ≡ y = rw (laws.only_nought x vx b) (nought-add laws y vy) in let here' : r.is_nought y ≡ false = rw z at here in rw z (hy here'))
      (λ b. bool_cases (r.is_nought y)
      (λ b'. let z : r.add x y ≡ x = rw (laws.only_nought y vy b') (laws.add-nought x vx) in let here' : r.is_nought x ≡ false = rw z at here in rw z (hx here'))
      (λ b'. let first = hx b in let second = hy b' in let both = size_laws.reach-add x y vx vy in omega arith))

  mul_reaches : (e e' : ℤ) (x y : A) (bound bound' : ℕ) → IsValue x → IsValue y → Reaches r e x bound → Reaches r e' y bound' → Reaches r (e +ℤ e') (r.mul x y) (bound + bound')
  mul_reaches e e' x y bound bound' vx vy hx hy here = bool_cases (r.is_nought x)
      (λ b. absurd (not_nought laws (r.mul x y) (rw (laws.only_nought x vx b) (nought-mul laws y vy)) here))
      (λ b. bool_cases (r.is_nought y)
      (λ b'. absurd (not_nought laws (r.mul x y) (rw (laws.only_nought y vy b') (mul-nought laws x vx)) here))
      (λ b'. let first = hx b in let second = hy b' in let both = size_laws.reach-mul x y vx vy in omega (arith, ints)))

  sums_reach : (e : ℤ) (f : ℕ → A) (n bound : ℕ) → AreValues IsValue f → ((i : ℕ) → i < n → Reaches r e (f i) bound) → Reaches r e (sum_below r f n) bound
  sums_reach e f zero bound v h = λ here. absurd (not_nought laws (sum_below r f 0) (sum_below-none r f) here)
  sums_reach e f (suc n) bound v h = rw (sum_below-more r f n) (sum_reaches e (sum_below r f n) (f n) bound (value_sum laws f n v) (v n) (sums_reach e f n bound v (λ i within. h i (omega arith))) (h n (omega arith)))

  -- ---- sums, products, negatives of polynomials

  pub reach-poly_sum : (p q : Terms A) → IsPoly IsValue r p → IsPoly IsValue r q → poly_reach r (poly_sum r p q) ≤ max (poly_reach r p) (poly_reach r q)
  reach-poly_sum p q np nq =
      let m = int_min (int_min p.low q.low) (pos 0) in let bound = max (poly_reach r p) (poly_reach r q) in
      let lp : m ≤ℤ p.low = omega (arith, ints, clamps) in let lq : m ≤ℤ q.low = omega (arith, ints, clamps) in let z : m ≤ℤ pos 0 = omega (arith, ints, clamps) in
      reach_least m (poly_sum r p q) bound (sum_low laws m p q lp lq z) (λ k. rw (from-poly_sum laws m p q k np.values nq.values lp lq)
      (sum_reaches (m +ℤ pos k) (from r m p k) (from r m q k) bound (value_from laws m p np.values k) (value_from laws m q nq.values k)
      (λ e. let h = from_reaches m p k lp e in omega arith) (λ e. let h = from_reaches m q k lq e in omega arith)))

  term_reaches : (m m' : ℤ) (p q : Terms A) (k i : ℕ) → IsPoly IsValue r p → IsPoly IsValue r q → m ≤ℤ p.low → m' ≤ℤ q.low → i < suc k → Reaches r ((m +ℤ m') +ℤ pos k) (term r (from r m p) (from r m' q) k i) (poly_reach r p + poly_reach r q)
  term_reaches m m' p q k i np nq lp lq within =
      let there : (m +ℤ m') +ℤ pos k ≡ (m +ℤ pos i) +ℤ (m' +ℤ pos (k - i)) = omega (arith, ints) in
      rw (term_is r (from r m p) (from r m' q) k i, there)
      (mul_reaches (m +ℤ pos i) (m' +ℤ pos (k - i)) (from r m p i) (from r m' q (k - i)) (poly_reach r p) (poly_reach r q) (value_from laws m p np.values i) (value_from laws m' q nq.values (k - i)) (from_reaches m p i lp) (from_reaches m' q (k - i) lq))

  pub reach-poly_product : (p q : Terms A) → IsPoly IsValue r p → IsPoly IsValue r q → poly_reach r (poly_product r p q) ≤ poly_reach r p + poly_reach r q
  reach-poly_product p q np nq =
      let m = int_min p.low (pos 0) in let m' = int_min q.low (pos 0) in let bound = poly_reach r p + poly_reach r q in
      let lp : m ≤ℤ p.low = omega (arith, ints, clamps) in let lq : m' ≤ℤ q.low = omega (arith, ints, clamps) in let z : m ≤ℤ pos 0 = omega (arith, ints, clamps) in let z' : m' ≤ℤ pos 0 = omega (arith, ints, clamps) in
      reach_least (m +ℤ m') (poly_product r p q) bound (product_low laws m m' p q lp lq z z') (λ k.
      rw (from-poly_product laws m m' p q k np.values nq.values lp lq, convolution_is r (from r m p) (from r m' q) k)
      (sums_reach ((m +ℤ m') +ℤ pos k) (term r (from r m p) (from r m' q) k) (suc k) bound (value_term laws (from r m p) (from r m' q) k (value_from laws m p np.values) (value_from laws m' q nq.values))
      (λ i within. term_reaches m m' p q k i np nq lp lq within)))

  negative_at_most : (p : Terms A) → IsPoly IsValue r p → poly_reach r (poly_negative r p) ≤ poly_reach r p
  negative_at_most p np =
      let m = int_min p.low (pos 0) in let lp : m ≤ℤ p.low = omega (arith, ints, clamps) in let z : m ≤ℤ pos 0 = omega (arith, ints, clamps) in
      reach_least m (poly_negative r p) (poly_reach r p) (negative_low laws m p lp z) (λ k. rw (from-poly_negative laws m p k np.values lp) (negative_reaches (m +ℤ pos k) (from r m p k) (value_from laws m p np.values k) (from_reaches m p k lp))) where
        negative_reaches : (e : ℤ) (x : A) → IsValue x → Reaches r e x (poly_reach r p) → Reaches r e (r.neg x) (poly_reach r p)
        negative_reaches e x v h here = bool_cases (r.is_nought x)
            (λ b. absurd (not_nought laws (r.neg x) (rw (laws.only_nought x v b) (neg-nought laws)) here))
            (λ b. let most = h b in let same = size_laws.reach-neg x v in omega arith)

  pub reach-poly_negative : (p : Terms A) → IsPoly IsValue r p → poly_reach r (poly_negative r p) ≡ poly_reach r p
  reach-poly_negative p np =
      let one = negative_at_most p np in
      let back : poly_negative r (poly_negative r p) ≡ p = neg-neg (poly_laws laws) p np in
      let two : poly_reach r (poly_negative r (poly_negative r p)) ≤ poly_reach r (poly_negative r p) = negative_at_most (poly_negative r p) (negative_is_poly laws p np.values) in
      let three : poly_reach r p ≤ poly_reach r (poly_negative r p) = rw back at two in omega arith

  pub reach-poly_zero : poly_reach r poly_zero ≡ 0
  reach-poly_zero = poly_reach_is r poly_zero ∙ greatest-none (reach_at r (pos 0) (at r []))

  pub reach-poly_one : poly_reach r (poly_one r) ≡ 0
  reach-poly_one = let most = reach_least (pos 0) (poly_one r) 0 (one_low laws) (λ k. rw (from-one laws k) (single k)) in omega arith where
    single : (k : ℕ) → Reaches r (pos 0 +ℤ pos k) (at r (r.unit ∷ []) k) 0
    single zero = λ e. let z = size_laws.reach-unit in rw (at-first r r.unit [], z) (omega (arith, ints))
    single (suc k) = λ e. absurd (not_nought laws (at r (r.unit ∷ []) (suc k)) (at-next r r.unit [] k ∙ at-nil r k) e)
