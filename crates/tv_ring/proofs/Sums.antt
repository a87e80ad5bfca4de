-- Finite sums over a ring, and sums of numbers.
use Rattle.std.proofs.Common.{◌≡◌, ℕ, zero, suc, ◌+◌, ◌<◌, ◌≤◌, refl, sym, ◌∙◌, arith}
use Rattle.tv_ring.specs.Operations.{Operations, RingLaws}
use Rattle.tv_ring.specs.Sums.{AreValues, sum_below, total_below}
use Rattle.tv_ring.proofs.Rings.{mul-nought, add_across}

pub sum_below-none : {A : Type 0} (r : Operations A) (f : ℕ → A) → sum_below r f 0 ≡ r.nought
unfolding sum_below
sum_below-none r f = refl

-- one term more
pub sum_below-more : {A : Type 0} (r : Operations A) (f : ℕ → A) (n : ℕ) → sum_below r f (suc n) ≡ r.add (sum_below r f n) (f n)
unfolding sum_below
sum_below-more r f n = refl

-- equal sequences have equal sums
pub sum_below-same : {A : Type 0} (r : Operations A) (f g : ℕ → A) (n : ℕ) → ((i : ℕ) → i < n → f i ≡ g i) → sum_below r f n ≡ sum_below r g n
sum_below-same r f g zero e = sum_below-none r f ∙ sym (sum_below-none r g)
sum_below-same r f g (suc n) e =
    let first = sum_below-same r f g n (λ i h. e i (omega arith)) in let last = e n (omega arith) in
    rw (sum_below-more r f n, sum_below-more r g n, first, last) refl

pub total_below-none : (f : ℕ → ℕ) → total_below f 0 ≡ 0
unfolding total_below
total_below-none f = refl

pub total_below-more : (f : ℕ → ℕ) (n : ℕ) → total_below f (suc n) ≡ total_below f n + f n
unfolding total_below
total_below-more f n = refl

pub total_below-same : (f g : ℕ → ℕ) (n : ℕ) → ((i : ℕ) → i < n → f i ≡ g i) → total_below f n ≡ total_below g n
total_below-same f g zero e = total_below-none f ∙ sym (total_below-none g)
total_below-same f g (suc n) e =
    let first = total_below-same f g n (λ i h. e i (omega arith)) in let last = e n (omega arith) in
    rw (total_below-more f n, total_below-more g n, first, last) refl

-- terms that are each at most another's
pub total_below-≤ : (f g : ℕ → ℕ) (n : ℕ) → ((i : ℕ) → i < n → f i ≤ g i) → total_below f n ≤ total_below g n
total_below-≤ f g zero h = rw (total_below-none f, total_below-none g) (omega arith)
total_below-≤ f g (suc n) h =
    let first = total_below-≤ f g n (λ i within. h i (omega arith)) in let last = h n (omega arith) in
    rw (total_below-more f n, total_below-more g n) (omega arith)

-- fewer terms add up to less
pub total_below-fewer : (f : ℕ → ℕ) (m d : ℕ) → total_below f m ≤ total_below f (m + d)
total_below-fewer f m zero = let e : m + 0 ≡ m = omega arith in rw e (omega arith)
total_below-fewer f m (suc d) =
    let e : m + suc d ≡ suc (m + d) = omega arith in let fewer = total_below-fewer f m d in
    rw (e, total_below-more f (m + d)) (omega arith)

module _ {A : Type 0} {IsValue : A → Type 0} {r : Operations A} (laws : RingLaws IsValue r) where
  pub value_sum : (f : ℕ → A) (n : ℕ) → AreValues IsValue f → IsValue (sum_below r f n)
  value_sum f zero v = rw (sum_below-none r f) laws.value_nought
  value_sum f (suc n) v = rw (sum_below-more r f n) (laws.value_add (sum_below r f n) (f n) (value_sum f n v) (v n))

  pub sum-nought : (f : ℕ → A) (n : ℕ) → ((i : ℕ) → i < n → f i ≡ r.nought) → sum_below r f n ≡ r.nought
  sum-nought f zero e = sum_below-none r f
  sum-nought f (suc n) e =
      let first = sum-nought f n (λ i h. e i (omega arith)) in let last = e n (omega arith) in
      rw (sum_below-more r f n, first, last) (laws.add-nought r.nought laws.value_nought)

  pub sum-add : (f g : ℕ → A) (n : ℕ) → AreValues IsValue f → AreValues IsValue g → sum_below r (λ i. r.add (f i) (g i)) n ≡ r.add (sum_below r f n) (sum_below r g n)
  sum-add f g zero v w = rw (sum_below-none r (λ i. r.add (f i) (g i)), sum_below-none r f, sum_below-none r g) (sym (laws.add-nought r.nought laws.value_nought))
  sum-add f g (suc n) v w =
      rw (sum_below-more r (λ i. r.add (f i) (g i)) n, sum_below-more r f n, sum_below-more r g n, sum-add f g n v w)
      (add_across laws (sum_below r f n) (sum_below r g n) (f n) (g n) (value_sum f n v) (value_sum g n w) (v n) (w n))

  pub sum-mul : (x : A) (f : ℕ → A) (n : ℕ) → IsValue x → AreValues IsValue f → sum_below r (λ i. r.mul x (f i)) n ≡ r.mul x (sum_below r f n)
  sum-mul x f zero vx v = rw (sum_below-none r (λ i. r.mul x (f i)), sum_below-none r f) (sym (mul-nought laws x vx))
  sum-mul x f (suc n) vx v =
      rw (sum_below-more r (λ i. r.mul x (f i)) n, sum_below-more r f n, sum-mul x f n vx v) (sym (laws.mul-add x (sum_below r f n) (f n) vx (value_sum f n v) (v n)))

  -- the first term
  pub sum-front : (f : ℕ → A) (n : ℕ) → AreValues IsValue f → sum_below r f (suc n) ≡ r.add (f 0) (sum_below r (λ i. f (suc i)) n)
  sum-front f zero v = rw (sum_below-more r f 0, sum_below-none r f, sum_below-none r (λ i. f (suc i))) (laws.add_comm r.nought (f 0) laws.value_nought (v 0))
  sum-front f (suc n) v =
      rw (sum_below-more r f (suc n), sum_below-more r (λ i. f (suc i)) n, sum-front f n v)
      (laws.add_assoc (f 0) (sum_below r (λ i. f (suc i)) n) (f (suc n)) (v 0) (value_sum (λ i. f (suc i)) n (λ i. v (suc i))) (v (suc n)))
