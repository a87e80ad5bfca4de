-- Quotients of sequences, term by term.
use Rattle.std.proofs.Common.{◌≡◌, ℕ, zero, suc, ◌+◌, ◌-◌, ◌<◌, length, refl, sym, ◌∙◌, ap, arith}
use Rattle.tv_ring.specs.Operations.{Operations, RingLaws}
use Rattle.tv_ring.specs.Sums.{AreValues, at, sum_below, term, convolution}
use Rattle.tv_ring.proofs.Rings.{nought-add}
use Rattle.tv_ring.proofs.Sums.{sum_below-more, sum_below-same, value_sum}
use Rattle.tv_ring.proofs.Products.{term_is, convolution_is, value_term}
use Rattle.tv_laws_series.specs.Terms.{listed}
use Rattle.tv_laws_series.specs.Quotients.{owed, quotients}
use Rattle.tv_laws_series.proofs.Listed.{length-listed, listed-none, listed-more, at-listed, values_all}

-- term number k of the quotient
unfoldable pub quotient : {A : Type 0} → Operations A → (ℕ → A) → (ℕ → A) → ℕ → A
quotient r f g k = r.add (f k) (r.neg (owed r (at r (quotients r f g k)) g k))

pub quotient_is : {A : Type 0} (r : Operations A) (f g : ℕ → A) (k : ℕ) → quotient r f g k ≡ r.add (f k) (r.neg (owed r (at r (quotients r f g k)) g k))
unfolding quotient
quotient_is r f g k = refl

pub owed_is : {A : Type 0} (r : Operations A) (d g : ℕ → A) (k : ℕ) → owed r d g k ≡ sum_below r (term r d g k) k
unfolding owed
owed_is r d g k = refl

-- the terms are those of one sequence
pub quotients_listed : {A : Type 0} (r : Operations A) (f g : ℕ → A) (n : ℕ) → quotients r f g n ≡ listed (quotient r f g) n
unfolding quotients quotient
quotients_listed r f g zero = sym (listed-none (quotient r f g))
quotients_listed r f g (suc n) =
    let e : suc n ≡ n + 1 = omega arith in
    rw (quotients_listed r f g n) (sym (ap (listed (quotient r f g)) e ∙ listed-more (quotient r f g) n ∙ rw (quotient_is r f g n, quotients_listed r f g n) refl))

pub length-quotients : {A : Type 0} (r : Operations A) (f g : ℕ → A) (n : ℕ) → length (quotients r f g n) ≡ n
length-quotients r f g n = rw (quotients_listed r f g n) (length-listed (quotient r f g) n)

pub at-quotients : {A : Type 0} (r : Operations A) (f g : ℕ → A) (n k : ℕ) → k < n → at r (quotients r f g n) k ≡ quotient r f g k
at-quotients r f g n k h = rw (quotients_listed r f g n) (at-listed r (quotient r f g) n k h)

-- what is owed at k depends on the terms before k alone
pub owed-same : {A : Type 0} (r : Operations A) (d e g : ℕ → A) (k : ℕ) → ((i : ℕ) → i < k → d i ≡ e i) → owed r d g k ≡ owed r e g k
owed-same r d e g k same = rw (owed_is r d g k, owed_is r e g k) (sum_below-same r (term r d g k) (term r e g k) k each) where
  each : (i : ℕ) → i < k → term r d g k i ≡ term r e g k i
  each i h = let p = same i h in rw (term_is r d g k i, term_is r e g k i, p) refl

-- each term by those before it
pub quotient-next : {A : Type 0} (r : Operations A) (f g : ℕ → A) (k : ℕ) → quotient r f g k ≡ r.add (f k) (r.neg (owed r (quotient r f g) g k))
quotient-next r f g k = quotient_is r f g k ∙ ap (λ x. r.add (f k) (r.neg x)) (owed-same r (at r (quotients r f g k)) (quotient r f g) g k (λ i h. at-quotients r f g k i h))

module _ {A : Type 0} {IsValue : A → Type 0} {r : Operations A} (laws : RingLaws IsValue r) where
  pub value_owed : (d g : ℕ → A) (k : ℕ) → AreValues IsValue d → AreValues IsValue g → IsValue (owed r d g k)
  value_owed d g k v w = rw (owed_is r d g k) (value_sum laws (term r d g k) k (value_term laws d g k v w))

  -- each of the first terms is a value
  value_first : (f g : ℕ → A) (n k : ℕ) → AreValues IsValue f → AreValues IsValue g → k < n → IsValue (quotient r f g k)
  value_first f g zero k v w h = absurd (omega arith)
  value_first f g (suc n) k v w h =
      let before : AreValues IsValue (at r (quotients r f g k)) = values_all laws (quotients r f g k) (λ i within.
      let e = length-quotients r f g k in let inside : i < k = omega arith in rw (at-quotients r f g k i inside) (value_first f g n i v w (omega arith))) in
      let o = value_owed (at r (quotients r f g k)) g k before w in
      rw (quotient_is r f g k) (laws.value_add (f k) (r.neg (owed r (at r (quotients r f g k)) g k)) (v k) (laws.value_neg (owed r (at r (quotients r f g k)) g k) o))

  pub value_quotient : (f g : ℕ → A) → AreValues IsValue f → AreValues IsValue g → AreValues IsValue (quotient r f g)
  value_quotient f g v w k = value_first f g (suc k) k v w (omega arith)

  pub value_quotients : (f g : ℕ → A) (n : ℕ) → AreValues IsValue f → AreValues IsValue g → AreValues IsValue (at r (quotients r f g n))
  value_quotients f g n v w = values_all laws (quotients r f g n) (λ i within.
      let e = length-quotients r f g n in let inside : i < n = omega arith in rw (at-quotients r f g n i inside) (value_quotient f g v w i))

  -- a product by a sequence that begins with one, by its last term
  pub convolution-owed : (d g : ℕ → A) (k : ℕ) → AreValues IsValue d → AreValues IsValue g → g 0 ≡ r.unit → convolution r d g k ≡ r.add (owed r d g k) (d k)
  convolution-owed d g k v w one =
      let e : k - k ≡ 0 = omega arith in
      rw (convolution_is r d g k, sum_below-more r (term r d g k) k, term_is r d g k k, e, one, laws.mul-unit (d k) (v k), owed_is r d g k) refl

  -- x + (y - x) = y
  add-sub : (x y : A) → IsValue x → IsValue y → r.add x (r.add y (r.neg x)) ≡ y
  add-sub x y v w =
      let n = laws.value_neg x v in
      ap (r.add x) (laws.add_comm y (r.neg x) w n) ∙ sym (laws.add_assoc x (r.neg x) y v n w) ∙ ap (λ t. r.add t y) (laws.add-neg x v) ∙ nought-add laws y w

  -- x = (y + x) - y
  sub-add : (x y : A) → IsValue x → IsValue y → r.add (r.add y x) (r.neg y) ≡ x
  sub-add x y v w =
      let n = laws.value_neg y w in
      ap (λ t. r.add t (r.neg y)) (laws.add_comm y x w v) ∙ laws.add_assoc x y (r.neg y) v w n ∙ ap (r.add x) (laws.add-neg y w) ∙ laws.add-nought x v

  -- the quotient times the divisor is the dividend
  pub quotient-convolution : (f g : ℕ → A) (k : ℕ) → AreValues IsValue f → AreValues IsValue g → g 0 ≡ r.unit → convolution r (quotient r f g) g k ≡ f k
  quotient-convolution f g k v w one =
      let d = quotient r f g in let vd = value_quotient f g v w in
      convolution-owed d g k vd w one ∙ ap (r.add (owed r d g k)) (quotient-next r f g k) ∙ add-sub (owed r d g k) (f k) (value_owed d g k vd w) (v k)

  -- no other sequence is it
  pub only_quotient : (f g d : ℕ → A) (n k : ℕ) → AreValues IsValue d → AreValues IsValue g → g 0 ≡ r.unit → ((i : ℕ) → i < n → convolution r d g i ≡ f i) → k < n → d k ≡ quotient r f g k
  only_quotient f g d zero k v w one product h = absurd (omega arith)
  only_quotient f g d (suc n) k v w one product h =
      let before : owed r d g k ≡ owed r (quotient r f g) g k = owed-same r d (quotient r f g) g k (λ i within. only_quotient f g d n i v w one (λ j less. product j (omega arith)) (omega arith)) in
      let here : r.add (owed r d g k) (d k) ≡ f k = sym (convolution-owed d g k v w one) ∙ product k h in
      sym (sub-add (d k) (owed r d g k) (v k) (value_owed d g k v w)) ∙ ap (λ t. r.add t (r.neg (owed r d g k))) here ∙ ap (λ t. r.add (f k) (r.neg t)) before ∙ sym (quotient-next r f g k)
