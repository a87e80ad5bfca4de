-- Products of sequences over a ring: they are commutative, associative and distributive.
use Rattle.std.proofs.Common.{◌≡◌, ℕ, zero, suc, ◌-◌, ◌*◌, ◌<◌, ◌≤◌, refl, sym, ◌∙◌, ap, arith}
use Rattle.tv_ring.specs.Operations.{Operations, RingLaws}
use Rattle.tv_ring.specs.Sums.{AreValues, sum_below, term, convolution, total_below, size_term, size_convolution}
use Rattle.tv_ring.proofs.Rings.{nought-add}
use Rattle.tv_ring.proofs.Sums.{sum_below-none, sum_below-more, sum_below-same, value_sum, sum-add, sum-mul, sum-front}

pub term_is : {A : Type 0} (r : Operations A) (f g : ℕ → A) (k i : ℕ) → term r f g k i ≡ r.mul (f i) (g (k - i))
unfolding term
term_is r f g k i = refl

pub size_term_is : {A : Type 0} (r : Operations A) (f g : ℕ → A) (k i : ℕ) → size_term r f g k i ≡ r.size (f i) * r.size (g (k - i))
unfolding size_term
size_term_is r f g k i = refl

pub convolution_is : {A : Type 0} (r : Operations A) (f g : ℕ → A) (k : ℕ) → convolution r f g k ≡ sum_below r (term r f g k) (suc k)
unfolding convolution
convolution_is r f g k = refl

pub size_convolution_is : {A : Type 0} (r : Operations A) (f g : ℕ → A) (k : ℕ) → size_convolution r f g k ≡ total_below (size_term r f g k) (suc k)
unfolding size_convolution
size_convolution_is r f g k = refl

-- a product's coefficient at k depends on those of its factors through k alone
pub convolution-same : {A : Type 0} (r : Operations A) (f f' g g' : ℕ → A) (k : ℕ) → ((i : ℕ) → i ≤ k → f i ≡ f' i) → ((i : ℕ) → i ≤ k → g i ≡ g' i) → convolution r f g k ≡ convolution r f' g' k
convolution-same r f f' g g' k e e' = rw (convolution_is r f g k, convolution_is r f' g' k) (sum_below-same r (term r f g k) (term r f' g' k) (suc k) each) where
  each : (i : ℕ) → i < suc k → term r f g k i ≡ term r f' g' k i
  each i h = let p = e i (omega arith) in let q = e' (k - i) (omega arith) in rw (term_is r f g k i, term_is r f' g' k i, p, q) refl

-- the last term
pub convolution-zero : {A : Type 0} (r : Operations A) (f g : ℕ → A) → convolution r f g 0 ≡ r.add r.nought (r.mul (f 0) (g 0))
convolution-zero r f g = rw (convolution_is r f g 0, sum_below-more r (term r f g 0) 0, sum_below-none r (term r f g 0), term_is r f g 0 0) refl

pub convolution-back : {A : Type 0} (r : Operations A) (f g : ℕ → A) (k : ℕ) → convolution r f g (suc k) ≡ r.add (convolution r f (λ i. g (suc i)) k) (r.mul (f (suc k)) (g 0))
convolution-back r f g k =
    let e : suc k - suc k ≡ 0 = omega arith in
    rw (
      convolution_is r f g (suc k),
      sum_below-more r (term r f g (suc k)) (suc k),
      term_is r f g (suc k) (suc k),
      e,
      convolution_is r f (λ i. g (suc i)) k,
      sum_below-same r (term r f g (suc k)) (term r f (λ i. g (suc i)) k) (suc k) each,
    ) refl where
      each : (i : ℕ) → i < suc k → term r f g (suc k) i ≡ term r f (λ i. g (suc i)) k i
      each i h = let e : suc k - i ≡ suc (k - i) = omega arith in rw (term_is r f g (suc k) i, e, term_is r f (λ i. g (suc i)) k i) refl

module _ {A : Type 0} {IsValue : A → Type 0} {r : Operations A} (laws : RingLaws IsValue r) where
  pub value_term : (f g : ℕ → A) (k : ℕ) → AreValues IsValue f → AreValues IsValue g → AreValues IsValue (term r f g k)
  value_term f g k v w i = rw (term_is r f g k i) (laws.value_mul (f i) (g (k - i)) (v i) (w (k - i)))

  pub value_convolution : (f g : ℕ → A) → AreValues IsValue f → AreValues IsValue g → AreValues IsValue (convolution r f g)
  value_convolution f g v w k = rw (convolution_is r f g k) (value_sum laws (term r f g k) (suc k) (value_term f g k v w))

  pub convolution-first : (f g : ℕ → A) → AreValues IsValue f → AreValues IsValue g → convolution r f g 0 ≡ r.mul (f 0) (g 0)
  convolution-first f g v w = convolution-zero r f g ∙ nought-add laws (r.mul (f 0) (g 0)) (laws.value_mul (f 0) (g 0) (v 0) (w 0))

  pub convolution-front : (f g : ℕ → A) (k : ℕ) → AreValues IsValue f → AreValues IsValue g → convolution r f g (suc k) ≡ r.add (r.mul (f 0) (g (suc k))) (convolution r (λ i. f (suc i)) g k)
  convolution-front f g k v w =
      let e : suc k - 0 ≡ suc k = omega arith in
      rw (
        convolution_is r f g (suc k),
        sum-front laws (term r f g (suc k)) (suc k) (value_term f g (suc k) v w),
        term_is r f g (suc k) 0,
        e,
        convolution_is r (λ i. f (suc i)) g k,
        sum_below-same r (λ i. term r f g (suc k) (suc i)) (term r (λ i. f (suc i)) g k) (suc k) each,
      ) refl where
        each : (i : ℕ) → i < suc k → term r f g (suc k) (suc i) ≡ term r (λ i. f (suc i)) g k i
        each i h = let e : suc k - suc i ≡ k - i = omega arith in rw (term_is r f g (suc k) (suc i), e, term_is r (λ i. f (suc i)) g k i) refl

  pub convolution_comm : (f g : ℕ → A) (k : ℕ) → AreValues IsValue f → AreValues IsValue g → convolution r f g k ≡ convolution r g f k
  convolution_comm f g zero v w = rw (convolution-first f g v w, convolution-first g f w v) (laws.mul_comm (f 0) (g 0) (v 0) (w 0))
  convolution_comm f g (suc k) v w =
      let rest = convolution_comm (λ i. f (suc i)) g k (λ i. v (suc i)) w in let turned = laws.mul_comm (f 0) (g (suc k)) (v 0) (w (suc k)) in
      rw (convolution-front f g k v w, convolution-back r g f k, rest, turned)
      (laws.add_comm (r.mul (g (suc k)) (f 0)) (convolution r g (λ i. f (suc i)) k) (laws.value_mul (g (suc k)) (f 0) (w (suc k)) (v 0)) (value_convolution g (λ i. f (suc i)) w (λ i. v (suc i)) k))

  pub convolution-add : (f g h : ℕ → A) (k : ℕ) → AreValues IsValue f → AreValues IsValue g → AreValues IsValue h → convolution r f (λ i. r.add (g i) (h i)) k ≡ r.add (convolution r f g k) (convolution r f h k)
  convolution-add f g h k v w u =
      rw (
        convolution_is r f (λ i. r.add (g i) (h i)) k,
        convolution_is r f g k,
        convolution_is r f h k,
        sum_below-same r (term r f (λ i. r.add (g i) (h i)) k) (λ i. r.add (term r f g k i) (term r f h k i)) (suc k) each,
      )
      (sum-add laws (term r f g k) (term r f h k) (suc k) (value_term f g k v w) (value_term f h k v u)) where
        each : (i : ℕ) → i < suc k → term r f (λ i. r.add (g i) (h i)) k i ≡ r.add (term r f g k i) (term r f h k i)
        each i _ = rw (term_is r f (λ i. r.add (g i) (h i)) k i, term_is r f g k i, term_is r f h k i) (laws.mul-add (f i) (g (k - i)) (h (k - i)) (v i) (w (k - i)) (u (k - i)))

  pub convolution-mul : (x : A) (f g : ℕ → A) (k : ℕ) → IsValue x → AreValues IsValue f → AreValues IsValue g → convolution r (λ i. r.mul x (f i)) g k ≡ r.mul x (convolution r f g k)
  convolution-mul x f g k vx v w =
      rw (convolution_is r (λ i. r.mul x (f i)) g k, convolution_is r f g k, sum_below-same r (term r (λ i. r.mul x (f i)) g k) (λ i. r.mul x (term r f g k i)) (suc k) each)
      (sum-mul laws x (term r f g k) (suc k) vx (value_term f g k v w)) where
        each : (i : ℕ) → i < suc k → term r (λ i. r.mul x (f i)) g k i ≡ r.mul x (term r f g k i)
        each i _ = rw (term_is r (λ i. r.mul x (f i)) g k i, term_is r f g k i) (laws.mul_assoc x (f i) (g (k - i)) vx (v i) (w (k - i)))

  -- the same in the first factor
  pub add-convolution : (f g h : ℕ → A) (k : ℕ) → AreValues IsValue f → AreValues IsValue g → AreValues IsValue h → convolution r (λ i. r.add (f i) (g i)) h k ≡ r.add (convolution r f h k) (convolution r g h k)
  add-convolution f g h k v w u =
      let vw = λ (i : ℕ). laws.value_add (f i) (g i) (v i) (w i) in
      rw (convolution_comm (λ i. r.add (f i) (g i)) h k vw u, convolution_comm f h k v u, convolution_comm g h k w u) (convolution-add h f g k u v w)

  pub convolution_assoc : (f g h : ℕ → A) (k : ℕ) → AreValues IsValue f → AreValues IsValue g → AreValues IsValue h → convolution r (convolution r f g) h k ≡ convolution r f (convolution r g h) k
  convolution_assoc f g h zero v w u =
      rw (convolution-first (convolution r f g) h (value_convolution f g v w) u, convolution-first f (convolution r g h) v (value_convolution g h w u), convolution-first f g v w, convolution-first g h w u)
      (laws.mul_assoc (f 0) (g 0) (h 0) (v 0) (w 0) (u 0))
  convolution_assoc f g h (suc k) v w u =
      let f' = λ (i : ℕ). f (suc i) in let g' = λ (i : ℕ). g (suc i) in
      let v' : AreValues IsValue f' = λ i. v (suc i) in let w' : AreValues IsValue g' = λ i. w (suc i) in
      let x = f 0 in let vx = v 0 in
      let vxg : AreValues IsValue (λ i. r.mul x (g' i)) = λ i. laws.value_mul x (g' i) vx (w' i) in
      let vfg = value_convolution f' g v' w in
      let rest = convolution_assoc f' g h k v' w u in
      let spread : convolution r (λ i. convolution r f g (suc i)) h k ≡ r.add (r.mul x (convolution r g' h k)) (convolution r (convolution r f' g) h k) =
      convolution-same r (λ i. convolution r f g (suc i)) (λ i. r.add (r.mul x (g' i)) (convolution r f' g i)) h h k (λ i _. convolution-front f g i v w) (λ i _. refl)
      ∙ add-convolution (λ i. r.mul x (g' i)) (convolution r f' g) h k vxg vfg u
      ∙ ap (λ t. r.add t (convolution r (convolution r f' g) h k)) (convolution-mul x g' h k vx w' u) in
      let vgh = value_convolution g' h w' u k in
      convolution-front (convolution r f g) h k (value_convolution f g v w) u
      ∙ ap (r.add (r.mul (convolution r f g 0) (h (suc k)))) spread
      ∙ ap (λ t. r.add t (r.add (r.mul x (convolution r g' h k)) (convolution r (convolution r f' g) h k))) (ap (λ t. r.mul t (h (suc k))) (convolution-first f g v w) ∙ laws.mul_assoc x (g 0) (h (suc k)) vx (w 0) (u (suc k)))
      ∙ sym (laws.add_assoc (r.mul x (r.mul (g 0) (h (suc k)))) (r.mul x (convolution r g' h k)) (convolution r (convolution r f' g) h k)
      (laws.value_mul x (r.mul (g 0) (h (suc k))) vx (laws.value_mul (g 0) (h (suc k)) (w 0) (u (suc k)))) (laws.value_mul x (convolution r g' h k) vx vgh) (value_convolution (convolution r f' g) h vfg u k))
      ∙ ap (λ t. r.add t (convolution r (convolution r f' g) h k)) (sym (laws.mul-add x (r.mul (g 0) (h (suc k))) (convolution r g' h k) vx (laws.value_mul (g 0) (h (suc k)) (w 0) (u (suc k))) vgh)
      ∙ ap (r.mul x) (sym (convolution-front g h k w u)))
      ∙ ap (r.add (r.mul x (convolution r g h (suc k)))) rest
      ∙ sym (convolution-front f (convolution r g h) k v (value_convolution g h w u))
