-- A coefficient of a product, summed up over the pairs that meet in it.
use Rattle.std.proofs.Common.{◌≡◌, ℕ, zero, suc, ◌+◌, ◌-◌, ◌*◌, ◌<◌, ◌≤◌, min, List, length, Result, Ok, Err, IfOk, refl, sym, ◌∙◌, arith}
use Rattle.tv_ring.specs.Operations.{Operations, RingLaws, SizeLaws, limit}
use Rattle.tv_ring.specs.Sums.{AreValues, at, sum_below, term, convolution, total_below, size_term, size_convolution}
use Rattle.tv_ring.proofs.Rings.{mul-nought, nought-mul, nought-add}
use Rattle.tv_ring.proofs.Sums.{sum_below-more, sum-nought, value_sum, total_below-more, total_below-fewer}
use Rattle.tv_ring.proofs.Products.{term_is, size_term_is, convolution_is, size_convolution_is, value_term}
use Rattle.tv_ring.proofs.Sizes.{size-terms}
use Rattle.tv_laws_series.proofs.Listed.{at_past}

module _ {A : Type 0} {IsValue : A → Type 0} {r : Operations A} (laws : RingLaws IsValue r) (xs ys : List A) (v : AreValues IsValue (at r xs)) (w : AreValues IsValue (at r ys)) (k : ℕ) where
  -- terms that are nought add nothing
  sum-more_nought : (f : ℕ → A) (i d : ℕ) → AreValues IsValue f → ((j : ℕ) → i ≤ j → j < i + d → f j ≡ r.nought) → sum_below r f (i + d) ≡ sum_below r f i
  sum-more_nought f i zero u e = let z : i + 0 ≡ i = omega arith in rw z refl
  sum-more_nought f i (suc d) u e =
      let z : i + suc d ≡ suc (i + d) = omega arith in
      let rest = sum-more_nought f i d u (λ j above below. e j above (omega arith)) in let last = e (i + d) (omega arith) (omega arith) in
      rw (z, sum_below-more r f (i + d), last, rest) (laws.add-nought (sum_below r f i) (value_sum laws f i u))

  -- before the first pair there is nothing
  pub summed_none : (i : ℕ) (total : A) → total ≡ r.nought → i ≡ (k + 1) - length ys → total ≡ sum_below r (term r (at r xs) (at r ys) k) i
  summed_none i total e first = e ∙ sym (sum-nought laws (term r (at r xs) (at r ys) k) i (λ j h.
      let past : length ys ≤ k - j = omega arith in let z = at_past r ys (k - j) past in
      rw (term_is r (at r xs) (at r ys) k j, z) (mul-nought laws (at r xs j) (v j))))

  -- one pair more
  pub summed_more : (i : ℕ) (total x y product next : A) → total ≡ sum_below r (term r (at r xs) (at r ys) k) i → x ≡ at r xs i → y ≡ at r ys (k - i) → product ≡ r.mul x y → next ≡ r.add total product → next ≡ sum_below r (term r (at r xs) (at r ys) k) (i + 1)
  summed_more i total x y product next summed ex ey ep en =
      let z : i + 1 ≡ suc i = omega arith in
      rw (z, sum_below-more r (term r (at r xs) (at r ys) k) i, term_is r (at r xs) (at r ys) k i) (en ∙ rw (summed, ep, ex, ey) refl)

  -- the first pair
  pub summed_first : (i : ℕ) (x y product : A) → i ≡ (k + 1) - length ys → x ≡ at r xs i → y ≡ at r ys (k - i) → product ≡ r.mul x y → product ≡ sum_below r (term r (at r xs) (at r ys) k) (i + 1)
  summed_first i x y product first ex ey ep =
      let value = laws.value_mul (at r xs i) (at r ys (k - i)) (v i) (w (k - i)) in
      let alone : product ≡ r.add r.nought product = sym (nought-add laws product (rw (ep, ex, ey) value)) in
      summed_more i r.nought x y product product (summed_none i r.nought refl first) ex ey ep alone

  -- after the last pair there is nothing
  pub summed_all : (i : ℕ) (total : A) → total ≡ sum_below r (term r (at r xs) (at r ys) k) i → i ≤ k + 1 → min (length xs) (k + 1) ≤ i → total ≡ convolution r (at r xs) (at r ys) k
  summed_all i total summed within last =
      let d = suc k - i in let z : suc k ≡ i + d = omega arith in
      let rest = sum-more_nought (term r (at r xs) (at r ys) k) i d (value_term laws (at r xs) (at r ys) k v w) (λ j above below.
      let past : length xs ≤ j = omega arith in let e = at_past r xs j past in
      rw (term_is r (at r xs) (at r ys) k j, e) (nought-mul laws (at r ys (k - j)) (w (k - j)))) in
      rw (convolution_is r (at r xs) (at r ys) k, z, rest) summed

  -- no pair at all
  pub summed_nothing : {E : Type 0} (begin end : ℕ) (result : Result A E) → IfOk result (λ x. x ≡ r.nought) → begin ≡ (k + 1) - length ys → (end ≡ min (length xs) (k + 1)) × (end ≤ begin) → IfOk result (λ x. x ≡ convolution r (at r xs) (at r ys) k)
  summed_nothing begin end (Ok x) e first h = let last = h.0 in let none = h.1 in
      summed_all begin x (summed_none begin x e first) (omega arith) (omega arith)
  summed_nothing begin end (Err e) i first h = tt

  -- a product that is too wide
  pub term_wide : (i : ℕ) (x y : A) → i < k + 1 → x ≡ at r xs i → y ≡ at r ys (k - i) → limit < r.size x * r.size y → limit < size_convolution r (at r xs) (at r ys) k
  term_wide i x y within ex ey wide =
      let f = size_term r (at r xs) (at r ys) k in
      let here : limit < f i = rw (size_term_is r (at r xs) (at r ys) k i, ← ex, ← ey) wide in
      let d = k - i in let z : suc k ≡ suc i + d = omega arith in
      let more = total_below-more f i in let fewer = total_below-fewer f (suc i) d in
      rw (size_convolution_is r (at r xs) (at r ys) k, z) (omega arith)

  -- a sum that is too wide
  pub sum_wide : SizeLaws IsValue r → (i : ℕ) (total x y product : A) → i < k + 1 → total ≡ sum_below r (term r (at r xs) (at r ys) k) i → x ≡ at r xs i → y ≡ at r ys (k - i) → product ≡ r.mul x y → limit < r.size total + r.size product → limit < size_convolution r (at r xs) (at r ys) k
  sum_wide sizes i total x y product within summed ex ey ep wide =
      let f = size_term r (at r xs) (at r ys) k in
      let before : r.size total ≤ total_below f i = rw summed (size-terms laws sizes (at r xs) (at r ys) k i v w) in
      let here : r.size product ≤ f i = rw (ep, ex, ey, size_term_is r (at r xs) (at r ys) k i) (sizes.size-mul (at r xs i) (at r ys (k - i)) (v i) (w (k - i))) in
      let d = k - i in let z : suc k ≡ suc i + d = omega arith in
      let more = total_below-more f i in let fewer = total_below-fewer f (suc i) d in
      rw (size_convolution_is r (at r xs) (at r ys) k, z) (omega arith)
