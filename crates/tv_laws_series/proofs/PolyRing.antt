-- The polynomials over a ring are a ring.
use Rattle.std.proofs.Common.{◌≡◌, ℕ, zero, suc, ◌-◌, ℤ, pos, ◌+ℤ◌, ◌≤ℤ◌, true, List, [], ◌∷◌, refl, sym, ◌∙◌, ap, arith}
use Rattle.std.specs.Int.{int_min}
use Rattle.std.proofs.lemmas.Int.{ints, clamps}
use Rattle.tv_ring.specs.Operations.{Operations, RingLaws}
use Rattle.tv_ring.specs.Sums.{AreValues, at, term, convolution}
use Rattle.tv_ring.specs.Integers.{+ℤ_comm, +ℤ_assoc, +ℤ-zero}
use Rattle.tv_ring.proofs.Rings.{unit-mul, nought-mul}
use Rattle.tv_ring.proofs.Sums.{sum-nought}
use Rattle.tv_ring.proofs.Products.{term_is, convolution_is, convolution-same, convolution-first, convolution-front, convolution_comm, convolution_assoc, convolution-add}
use Rattle.tv_laws_series.specs.Terms.{Terms, terms, from}
use Rattle.tv_laws_series.specs.Polynomials.{IsPoly, is_empty, poly_zero, poly_one, poly_sum, poly_product, poly_negative, polynomials}
use Rattle.tv_laws_series.proofs.SeriesFrom.{from_low, value_from}
use Rattle.tv_laws_series.proofs.NormalForm.{at-nil, at-first, at-next, nil_is_poly, from_nil, from-normal, normal_is_poly, normal_low, same_poly}
use Rattle.tv_laws_series.proofs.PolyFrom.{sum_is_poly, sum_low, from-poly_sum, product_is_poly, product_low, from-poly_product, negative_is_poly, negative_low, from-poly_negative}

module _ {A : Type 0} {IsValue : A → Type 0} {r : Operations A} (laws : RingLaws IsValue r) where
  -- ---- one

  pub value_single : (x : A) → IsValue x → AreValues IsValue (at r (x ∷ []))
  value_single x v zero = rw (at-first r x []) v
  value_single x v (suc k) = rw (at-next r x [] k, at-nil r k) laws.value_nought

  pub one_is_poly : IsPoly IsValue r (poly_one r)
  one_is_poly = normal_is_poly laws (pos 0) (r.unit ∷ []) (value_single r.unit laws.value_unit)

  pub one_low : pos 0 ≤ℤ (poly_one r).low
  one_low = normal_low laws (pos 0) (pos 0) (r.unit ∷ []) (omega (arith, ints)) (omega (arith, ints))

  pub from-one : (k : ℕ) → from r (pos 0) (poly_one r) k ≡ at r (r.unit ∷ []) k
  from-one k = from-normal laws (pos 0) (pos 0) (r.unit ∷ []) k (omega (arith, ints)) (value_single r.unit laws.value_unit) ∙ from_low r (terms (pos 0) (r.unit ∷ [])) k

  nought-convolution : (f g : ℕ → A) (k : ℕ) → ((i : ℕ) → f i ≡ r.nought) → AreValues IsValue g → convolution r f g k ≡ r.nought
  nought-convolution f g k e w = convolution_is r f g k ∙ sum-nought laws (term r f g k) (suc k) (λ i _. rw (term_is r f g k i, e i) (nought-mul laws (g (k - i)) (w (k - i))))

  single-convolution : (f : ℕ → A) (k : ℕ) → AreValues IsValue f → convolution r (at r (r.unit ∷ [])) f k ≡ f k
  single-convolution f zero v = convolution-first laws (at r (r.unit ∷ [])) f (value_single r.unit laws.value_unit) v ∙ rw (at-first r r.unit []) (unit-mul laws (f 0) (v 0))
  single-convolution f (suc k) v =
      let rest = nought-convolution (λ i. at r (r.unit ∷ []) (suc i)) f k (λ i. at-next r r.unit [] i ∙ at-nil r i) v in
      convolution-front laws (at r (r.unit ∷ [])) f k (value_single r.unit laws.value_unit) v ∙ rw (rest, at-first r r.unit [], unit-mul laws (f (suc k)) (v (suc k))) (laws.add-nought (f (suc k)) (v (suc k)))

  -- ---- sums

  add_comm : (p q : Terms A) → IsPoly IsValue r p → IsPoly IsValue r q → poly_sum r p q ≡ poly_sum r q p
  add_comm p q np nq =
      let m = int_min (int_min p.low q.low) (pos 0) in
      let lp : m ≤ℤ p.low = omega (arith, ints, clamps) in let lq : m ≤ℤ q.low = omega (arith, ints, clamps) in let z : m ≤ℤ pos 0 = omega (arith, ints, clamps) in
      same_poly laws m (poly_sum r p q) (poly_sum r q p) (sum_is_poly laws p q np.values nq.values) (sum_is_poly laws q p nq.values np.values) (sum_low laws m p q lp lq z) (sum_low laws m q p lq lp z)
      (λ k. from-poly_sum laws m p q k np.values nq.values lp lq ∙ laws.add_comm (from r m p k) (from r m q k) (value_from laws m p np.values k) (value_from laws m q nq.values k)
      ∙ sym (from-poly_sum laws m q p k nq.values np.values lq lp))

  add_assoc : (p q s : Terms A) → IsPoly IsValue r p → IsPoly IsValue r q → IsPoly IsValue r s → poly_sum r (poly_sum r p q) s ≡ poly_sum r p (poly_sum r q s)
  add_assoc p q s np nq ns =
      let m = int_min (int_min p.low q.low) (int_min s.low (pos 0)) in
      let lp : m ≤ℤ p.low = omega (arith, ints, clamps) in let lq : m ≤ℤ q.low = omega (arith, ints, clamps) in let ls : m ≤ℤ s.low = omega (arith, ints, clamps) in let z : m ≤ℤ pos 0 = omega (arith, ints, clamps) in
      let pq = poly_sum r p q in let qs = poly_sum r q s in
      let npq = sum_is_poly laws p q np.values nq.values in let nqs = sum_is_poly laws q s nq.values ns.values in
      let lpq = sum_low laws m p q lp lq z in let lqs = sum_low laws m q s lq ls z in
      same_poly laws m (poly_sum r pq s) (poly_sum r p qs) (sum_is_poly laws pq s npq.values ns.values) (sum_is_poly laws p qs np.values nqs.values) (sum_low laws m pq s lpq ls z) (sum_low laws m p qs lp lqs z)
      (λ k. from-poly_sum laws m pq s k npq.values ns.values lpq ls
      ∙ ap (λ x. r.add x (from r m s k)) (from-poly_sum laws m p q k np.values nq.values lp lq)
      ∙ laws.add_assoc (from r m p k) (from r m q k) (from r m s k) (value_from laws m p np.values k) (value_from laws m q nq.values k) (value_from laws m s ns.values k)
      ∙ ap (r.add (from r m p k)) (sym (from-poly_sum laws m q s k nq.values ns.values lq ls))
      ∙ sym (from-poly_sum laws m p qs k np.values nqs.values lp lqs))

  add-zero : (p : Terms A) → IsPoly IsValue r p → poly_sum r p poly_zero ≡ p
  add-zero p np =
      let m = int_min p.low (pos 0) in
      let lp : m ≤ℤ p.low = omega (arith, ints, clamps) in let z : m ≤ℤ pos 0 = omega (arith, ints, clamps) in let none = nil_is_poly laws in
      same_poly laws m (poly_sum r p poly_zero) p (sum_is_poly laws p poly_zero np.values none.values) np (sum_low laws m p poly_zero lp z z) lp
      (λ k. from-poly_sum laws m p poly_zero k np.values none.values lp z ∙ ap (r.add (from r m p k)) (from_nil laws m (pos 0) k) ∙ laws.add-nought (from r m p k) (value_from laws m p np.values k))

  add-negative : (p : Terms A) → IsPoly IsValue r p → poly_sum r p (poly_negative r p) ≡ poly_zero
  add-negative p np =
      let m = int_min p.low (pos 0) in let q = poly_negative r p in let nq = negative_is_poly laws p np.values in
      let lp : m ≤ℤ p.low = omega (arith, ints, clamps) in let z : m ≤ℤ pos 0 = omega (arith, ints, clamps) in let lq = negative_low laws m p lp z in
      same_poly laws m (poly_sum r p q) poly_zero (sum_is_poly laws p q np.values nq.values) (nil_is_poly laws) (sum_low laws m p q lp lq z) z
      (λ k. from-poly_sum laws m p q k np.values nq.values lp lq ∙ ap (r.add (from r m p k)) (from-poly_negative laws m p k np.values lp)
      ∙ laws.add-neg (from r m p k) (value_from laws m p np.values k) ∙ sym (from_nil laws m (pos 0) k))

  -- ---- products

  -- at an exponent that is the sum of both
  from-product_at : (n m m' : ℤ) (p q : Terms A) (k : ℕ) → n ≡ m +ℤ m' → IsPoly IsValue r p → IsPoly IsValue r q → m ≤ℤ p.low → m' ≤ℤ q.low → from r n (poly_product r p q) k ≡ convolution r (from r m p) (from r m' q) k
  from-product_at n m m' p q k e np nq lp lq = rw e (from-poly_product laws m m' p q k np.values nq.values lp lq)

  product_low_at : (n m m' : ℤ) (p q : Terms A) → n ≡ m +ℤ m' → m ≤ℤ p.low → m' ≤ℤ q.low → m ≤ℤ pos 0 → m' ≤ℤ pos 0 → n ≤ℤ (poly_product r p q).low
  product_low_at n m m' p q e lp lq z z' = rw e (product_low laws m m' p q lp lq z z')

  base_low : (p : Terms A) → int_min p.low (pos 0) ≤ℤ p.low
  base_low p = omega (arith, ints, clamps)

  base_zero : (p : Terms A) → int_min p.low (pos 0) ≤ℤ pos 0
  base_zero p = omega (arith, ints, clamps)

  mul_comm : (p q : Terms A) → IsPoly IsValue r p → IsPoly IsValue r q → poly_product r p q ≡ poly_product r q p
  mul_comm p q np nq =
      let a = int_min p.low (pos 0) in let b = int_min q.low (pos 0) in let turned = +ℤ_comm a b in
      let la = base_low p in let lb = base_low q in let za = base_zero p in let zb = base_zero q in
      same_poly laws (a +ℤ b) (poly_product r p q) (poly_product r q p) (product_is_poly laws p q np.values nq.values) (product_is_poly laws q p nq.values np.values)
      (product_low laws a b p q la lb za zb) (product_low_at (a +ℤ b) b a q p turned lb la zb za)
      (λ k. from-poly_product laws a b p q k np.values nq.values la lb
      ∙ convolution_comm laws (from r a p) (from r b q) k (value_from laws a p np.values) (value_from laws b q nq.values)
      ∙ sym (from-product_at (a +ℤ b) b a q p k turned nq np lb la))

  mul_assoc : (p q s : Terms A) → IsPoly IsValue r p → IsPoly IsValue r q → IsPoly IsValue r s → poly_product r (poly_product r p q) s ≡ poly_product r p (poly_product r q s)
  mul_assoc p q s np nq ns =
      let a = int_min p.low (pos 0) in let b = int_min q.low (pos 0) in let c = int_min s.low (pos 0) in let n = (a +ℤ b) +ℤ c in let turned = +ℤ_assoc a b c in
      let la = base_low p in let lb = base_low q in let lc = base_low s in let za = base_zero p in let zb = base_zero q in let zc = base_zero s in
      let pq = poly_product r p q in let qs = poly_product r q s in
      let npq = product_is_poly laws p q np.values nq.values in let nqs = product_is_poly laws q s nq.values ns.values in
      let lab = product_low laws a b p q la lb za zb in let lbc = product_low laws b c q s lb lc zb zc in
      let zab : (a +ℤ b) ≤ℤ pos 0 = omega (arith, ints) in let zbc : (b +ℤ c) ≤ℤ pos 0 = omega (arith, ints) in
      let fp = from r a p in let fq = from r b q in let fs = from r c s in
      same_poly laws n (poly_product r pq s) (poly_product r p qs) (product_is_poly laws pq s npq.values ns.values) (product_is_poly laws p qs np.values nqs.values)
      (product_low laws (a +ℤ b) c pq s lab lc zab zc) (product_low_at n a (b +ℤ c) p qs turned la lbc za zbc)
      (λ k. from-poly_product laws (a +ℤ b) c pq s k npq.values ns.values lab lc
      ∙ convolution-same r (from r (a +ℤ b) pq) (convolution r fp fq) fs fs k (λ i _. from-poly_product laws a b p q i np.values nq.values la lb) (λ i _. refl)
      ∙ convolution_assoc laws fp fq fs k (value_from laws a p np.values) (value_from laws b q nq.values) (value_from laws c s ns.values)
      ∙ sym (convolution-same r fp fp (from r (b +ℤ c) qs) (convolution r fq fs) k (λ i _. refl) (λ i _. from-poly_product laws b c q s i nq.values ns.values lb lc))
      ∙ sym (from-product_at n a (b +ℤ c) p qs k turned np nqs la lbc))

  mul-one : (p : Terms A) → IsPoly IsValue r p → poly_product r p (poly_one r) ≡ p
  mul-one p np =
      let a = int_min p.low (pos 0) in let la = base_low p in let za = base_zero p in let same = sym (+ℤ-zero a) in
      let none : pos 0 ≤ℤ pos 0 = omega (arith, ints) in let vp = value_from laws a p np.values in
      same_poly laws a (poly_product r p (poly_one r)) p (product_is_poly laws p (poly_one r) np.values one_is_poly.values) np (product_low_at a a (pos 0) p (poly_one r) same la one_low za none) la
      (λ k. from-product_at a a (pos 0) p (poly_one r) k same np one_is_poly la one_low
      ∙ convolution-same r (from r a p) (from r a p) (from r (pos 0) (poly_one r)) (at r (r.unit ∷ [])) k (λ i _. refl) (λ i _. from-one i)
      ∙ convolution_comm laws (from r a p) (at r (r.unit ∷ [])) k vp (value_single r.unit laws.value_unit)
      ∙ single-convolution (from r a p) k vp)

  mul-add : (p q s : Terms A) → IsPoly IsValue r p → IsPoly IsValue r q → IsPoly IsValue r s → poly_product r p (poly_sum r q s) ≡ poly_sum r (poly_product r p q) (poly_product r p s)
  mul-add p q s np nq ns =
      let a = int_min p.low (pos 0) in let m = int_min (int_min q.low s.low) (pos 0) in let n = a +ℤ m in
      let la = base_low p in let za = base_zero p in
      let lq : m ≤ℤ q.low = omega (arith, ints, clamps) in let ls : m ≤ℤ s.low = omega (arith, ints, clamps) in let z : m ≤ℤ pos 0 = omega (arith, ints, clamps) in let zn : n ≤ℤ pos 0 = omega (arith, ints) in
      let qs = poly_sum r q s in let pq = poly_product r p q in let ps = poly_product r p s in
      let nqs = sum_is_poly laws q s nq.values ns.values in let npq = product_is_poly laws p q np.values nq.values in let nps = product_is_poly laws p s np.values ns.values in
      let lqs = sum_low laws m q s lq ls z in let lpq = product_low laws a m p q la lq za z in let lps = product_low laws a m p s la ls za z in
      let fp = from r a p in let fq = from r m q in let fs = from r m s in
      same_poly laws n (poly_product r p qs) (poly_sum r pq ps) (product_is_poly laws p qs np.values nqs.values) (sum_is_poly laws pq ps npq.values nps.values)
      (product_low laws a m p qs la lqs za z) (sum_low laws n pq ps lpq lps zn)
      (λ k. from-poly_product laws a m p qs k np.values nqs.values la lqs
      ∙ convolution-same r fp fp (from r m qs) (λ i. r.add (fq i) (fs i)) k (λ i _. refl) (λ i _. from-poly_sum laws m q s i nq.values ns.values lq ls)
      ∙ convolution-add laws fp fq fs k (value_from laws a p np.values) (value_from laws m q nq.values) (value_from laws m s ns.values)
      ∙ rw (← from-poly_product laws a m p q k np.values nq.values la lq, ← from-poly_product laws a m p s k np.values ns.values la ls) (sym (from-poly_sum laws n pq ps k npq.values nps.values lpq lps)))

  only_zero : (low : ℤ) (xs : List A) → IsPoly IsValue r (terms low xs) → is_empty xs ≡ true → terms low xs ≡ poly_zero
  only_zero low [] np e = ap (λ n. terms n []) (np.none refl)
  only_zero low (x ∷ xs) np e = cc

  pub poly_laws : RingLaws (IsPoly IsValue r) (polynomials r)
  poly_laws = record {
    value_nought = nil_is_poly laws;
    value_unit = one_is_poly;
    value_add = λ p q np nq. sum_is_poly laws p q np.values nq.values;
    value_mul = λ p q np nq. product_is_poly laws p q np.values nq.values;
    value_neg = λ p np. negative_is_poly laws p np.values;
    is_nought-nought = refl;
    only_nought = λ p np e. only_zero p.low p.coefficients np e;
    add_comm = add_comm;
    add_assoc = add_assoc;
    add-nought = add-zero;
    add-neg = add-negative;
    mul_comm = mul_comm;
    mul_assoc = mul_assoc;
    mul-unit = mul-one;
    mul-add = mul-add;
  }
