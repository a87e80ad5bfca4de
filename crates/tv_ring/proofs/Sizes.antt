-- The sizes of sums, of products of sequences, and of multiples of one.
use Rattle.std.proofs.Common.{◌≡◌, ℕ, zero, suc, ◌-◌, ◌*◌, ◌≤◌, arith, le_trans, suc-mul, ℤ, pos, negsuc, unsigned_abs}
use Rattle.tv_ring.specs.Operations.{Operations, RingLaws, SizeLaws}
use Rattle.tv_ring.specs.Sums.{AreValues, sum_below, term, convolution, total_below, size_term, size_convolution, times, whole_times}
use Rattle.tv_ring.proofs.Sums.{sum_below-none, sum_below-more, total_below-none, total_below-more, total_below-≤, value_sum}
use Rattle.tv_ring.proofs.Products.{term_is, size_term_is, convolution_is, size_convolution_is}
use Rattle.tv_ring.proofs.Times.{times-none, times-more, whole_times-pos, whole_times-negsuc, value_times}

module _ {A : Type 0} {IsValue : A → Type 0} {r : Operations A} (laws : RingLaws IsValue r) (sizes : SizeLaws IsValue r) where
  pub size-sum_below : (f : ℕ → A) (n : ℕ) → AreValues IsValue f → r.size (sum_below r f n) ≤ total_below (λ i. r.size (f i)) n
  size-sum_below f zero v = rw (sum_below-none r f, total_below-none (λ i. r.size (f i)), sizes.size-nought) (omega arith)
  size-sum_below f (suc n) v =
      let first = size-sum_below f n v in let both = sizes.size-add (sum_below r f n) (f n) (value_sum laws f n v) (v n) in
      rw (sum_below-more r f n, total_below-more (λ i. r.size (f i)) n) (omega arith)

  -- a partial sum of a product's terms is at most as great as the sizes of those terms
  pub size-terms : (f g : ℕ → A) (k n : ℕ) → AreValues IsValue f → AreValues IsValue g → r.size (sum_below r (term r f g k) n) ≤ total_below (size_term r f g k) n
  size-terms f g k n v w =
      le_trans (size-sum_below (term r f g k) n (λ i. rw (term_is r f g k i) (laws.value_mul (f i) (g (k - i)) (v i) (w (k - i)))))
      (total_below-≤ (λ i. r.size (term r f g k i)) (size_term r f g k) n (λ i _. rw (term_is r f g k i, size_term_is r f g k i) (sizes.size-mul (f i) (g (k - i)) (v i) (w (k - i)))))

  pub size-convolution : (f g : ℕ → A) (k : ℕ) → AreValues IsValue f → AreValues IsValue g → r.size (convolution r f g k) ≤ size_convolution r f g k
  size-convolution f g k v w = rw (convolution_is r f g k, size_convolution_is r f g k) (size-terms f g k (suc k) v w)

  pub size-times : (n : ℕ) → r.size (times r n) ≤ n * r.size r.unit
  size-times zero = rw (times-none r, sizes.size-nought) (omega arith)
  size-times (suc n) =
      let first = size-times n in let both = sizes.size-add (times r n) r.unit (value_times laws n) laws.value_unit in
      rw (times-more r n, suc-mul n (r.size r.unit)) (omega arith)

  pub reach-times : (n : ℕ) → r.reach (times r n) ≡ 0
  reach-times zero = rw (times-none r) sizes.reach-nought
  reach-times (suc n) =
      let first = reach-times n in let one = sizes.reach-unit in let both = sizes.reach-add (times r n) r.unit (value_times laws n) laws.value_unit in
      rw (times-more r n) (omega arith)

  pub size-whole_times : (z : ℤ) → r.size (whole_times r z) ≤ unsigned_abs z * r.size r.unit
  size-whole_times (pos n) = rw (whole_times-pos r n) (size-times n)
  size-whole_times (negsuc n) = rw (whole_times-negsuc r n, sizes.size-neg (times r (suc n)) (value_times laws (suc n))) (size-times (suc n))
