-- A sequence that begins with noughts.
use Rattle.std.proofs.Common.{◌≡◌, ℕ, zero, suc, ◌+◌, ◌-◌, ◌<◌, ◌≤◌, refl, sym, ◌∙◌, arith}
use Rattle.tv_ring.specs.Operations.{Operations, RingLaws}
use Rattle.tv_ring.specs.Sums.{AreValues, convolution}
use Rattle.tv_ring.proofs.Rings.{nought-mul, nought-add}
use Rattle.tv_ring.proofs.Products.{convolution-first, convolution-front, convolution_comm, convolution-same, value_convolution}
use Rattle.tv_laws_series.specs.Terms.{padded, plus, scaled}

pub padded_zero : {A : Type 0} (r : Operations A) (f : ℕ → A) (k : ℕ) → padded r 0 f k ≡ f k
unfolding padded
padded_zero r f k = refl

pub padded_first : {A : Type 0} (r : Operations A) (d : ℕ) (f : ℕ → A) → padded r (suc d) f 0 ≡ r.nought
unfolding padded
padded_first r d f = refl

pub padded_next : {A : Type 0} (r : Operations A) (d : ℕ) (f : ℕ → A) (k : ℕ) → padded r (suc d) f (suc k) ≡ padded r d f k
unfolding padded
padded_next r d f k = refl

pub padded_before : {A : Type 0} (r : Operations A) (d : ℕ) (f : ℕ → A) (k : ℕ) → k < d → padded r d f k ≡ r.nought
padded_before r zero f k h = absurd (omega arith)
padded_before r (suc d) f zero h = padded_first r d f
padded_before r (suc d) f (suc k) h = padded_next r d f k ∙ padded_before r d f k (omega arith)

pub padded_after : {A : Type 0} (r : Operations A) (d : ℕ) (f : ℕ → A) (k : ℕ) → d ≤ k → padded r d f k ≡ f (k - d)
padded_after r zero f k h = let e : k - 0 ≡ k = omega arith in rw e (padded_zero r f k)
padded_after r (suc d) f zero h = absurd (omega arith)
padded_after r (suc d) f (suc k) h = let e : suc k - suc d ≡ k - d = omega arith in rw e (padded_next r d f k ∙ padded_after r d f k (omega arith))

pub padded-same : {A : Type 0} (r : Operations A) (d : ℕ) (f g : ℕ → A) (k : ℕ) → ((i : ℕ) → d + i ≤ k → f i ≡ g i) → padded r d f k ≡ padded r d g k
padded-same r zero f g k e = padded_zero r f k ∙ e k (omega arith) ∙ sym (padded_zero r g k)
padded-same r (suc d) f g zero e = padded_first r d f ∙ sym (padded_first r d g)
padded-same r (suc d) f g (suc k) e = padded_next r d f k ∙ padded-same r d f g k (λ i h. e i (omega arith)) ∙ sym (padded_next r d g k)

pub padded-padded : {A : Type 0} (r : Operations A) (d e : ℕ) (f : ℕ → A) (k : ℕ) → padded r d (padded r e f) k ≡ padded r (d + e) f k
padded-padded r zero e f k = let z : 0 + e ≡ e = omega arith in rw z (padded_zero r (padded r e f) k)
padded-padded r (suc d) e f zero = let s : suc d + e ≡ suc (d + e) = omega arith in rw s (padded_first r d (padded r e f) ∙ sym (padded_first r (d + e) f))
padded-padded r (suc d) e f (suc k) = let s : suc d + e ≡ suc (d + e) = omega arith in
    rw s (padded_next r d (padded r e f) k ∙ padded-padded r d e f k ∙ sym (padded_next r (d + e) f k))

pub plus_is : {A : Type 0} (r : Operations A) (f g : ℕ → A) (k : ℕ) → plus r f g k ≡ r.add (f k) (g k)
unfolding plus
plus_is r f g k = refl

pub scaled_is : {A : Type 0} (r : Operations A) (c : A) (f : ℕ → A) (k : ℕ) → scaled r c f k ≡ r.mul c (f k)
unfolding scaled
scaled_is r c f k = refl

module _ {A : Type 0} {IsValue : A → Type 0} {r : Operations A} (laws : RingLaws IsValue r) where
  pub value_padded : (d : ℕ) (f : ℕ → A) → AreValues IsValue f → AreValues IsValue (padded r d f)
  value_padded zero f v k = rw (padded_zero r f k) (v k)
  value_padded (suc d) f v zero = rw (padded_first r d f) laws.value_nought
  value_padded (suc d) f v (suc k) = rw (padded_next r d f k) (value_padded d f v k)

  pub value_plus : (f g : ℕ → A) → AreValues IsValue f → AreValues IsValue g → AreValues IsValue (plus r f g)
  value_plus f g v w k = rw (plus_is r f g k) (laws.value_add (f k) (g k) (v k) (w k))

  pub value_scaled : (c : A) (f : ℕ → A) → IsValue c → AreValues IsValue f → AreValues IsValue (scaled r c f)
  value_scaled c f v w k = rw (scaled_is r c f k) (laws.value_mul c (f k) v (w k))

  pub padded-plus : (d : ℕ) (f g : ℕ → A) (k : ℕ) → padded r d (plus r f g) k ≡ plus r (padded r d f) (padded r d g) k
  padded-plus zero f g k = rw (padded_zero r (plus r f g) k, plus_is r f g k, plus_is r (padded r 0 f) (padded r 0 g) k, padded_zero r f k, padded_zero r g k) refl
  padded-plus (suc d) f g zero =
      rw (padded_first r d (plus r f g), plus_is r (padded r (suc d) f) (padded r (suc d) g) 0, padded_first r d f, padded_first r d g) (sym (laws.add-nought r.nought laws.value_nought))
  padded-plus (suc d) f g (suc k) =
      rw (padded_next r d (plus r f g) k, padded-plus d f g k, plus_is r (padded r d f) (padded r d g) k, plus_is r (padded r (suc d) f) (padded r (suc d) g) (suc k), padded_next r d f k, padded_next r d g k) refl

  -- noughts before a factor are noughts before the product
  pub padded-convolution : (d : ℕ) (f g : ℕ → A) (k : ℕ) → AreValues IsValue f → AreValues IsValue g → convolution r (padded r d f) g k ≡ padded r d (convolution r f g) k
  padded-convolution zero f g k v w = convolution-same r (padded r 0 f) f g g k (λ i _. padded_zero r f i) (λ i _. refl) ∙ sym (padded_zero r (convolution r f g) k)
  padded-convolution (suc d) f g zero v w =
      rw (convolution-first laws (padded r (suc d) f) g (value_padded (suc d) f v) w, padded_first r d f, nought-mul laws (g 0) (w 0), padded_first r d (convolution r f g)) refl
  padded-convolution (suc d) f g (suc k) v w =
      let moved : convolution r (λ i. padded r (suc d) f (suc i)) g k ≡ convolution r (padded r d f) g k = convolution-same r (λ i. padded r (suc d) f (suc i)) (padded r d f) g g k (λ i _. padded_next r d f i) (λ i _. refl) in
      rw (convolution-front laws (padded r (suc d) f) g k (value_padded (suc d) f v) w, padded_first r d f, nought-mul laws (g (suc k)) (w (suc k)), moved, padded-convolution d f g k v w, padded_next r d (convolution r f g) k)
      (nought-add laws (padded r d (convolution r f g) k) (value_padded d (convolution r f g) (value_convolution laws f g v w) k))

  pub convolution-padded : (d : ℕ) (f g : ℕ → A) (k : ℕ) → AreValues IsValue f → AreValues IsValue g → convolution r f (padded r d g) k ≡ padded r d (convolution r f g) k
  convolution-padded d f g k v w =
      convolution_comm laws f (padded r d g) k v (value_padded d g w) ∙ padded-convolution d g f k w v
      ∙ padded-same r d (convolution r g f) (convolution r f g) k (λ i _. convolution_comm laws g f i w v)

  -- noughts before both
  pub padded-both : (d e : ℕ) (f g : ℕ → A) (k : ℕ) → AreValues IsValue f → AreValues IsValue g → convolution r (padded r d f) (padded r e g) k ≡ padded r (d + e) (convolution r f g) k
  padded-both d e f g k v w =
      padded-convolution d f (padded r e g) k v (value_padded e g w)
      ∙ padded-same r d (convolution r f (padded r e g)) (padded r e (convolution r f g)) k (λ i _. convolution-padded e f g i v w)
      ∙ padded-padded r d e (convolution r f g) k
