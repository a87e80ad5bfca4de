-- What follows from the laws of a ring: nought in products, negatives, and sums of sums.
use Rattle.std.proofs.Common.{◌≡◌, refl, sym, ◌∙◌, ap}
use Rattle.tv_ring.specs.Operations.{Operations, RingLaws}

module _ {A : Type 0} {IsValue : A → Type 0} {r : Operations A} (laws : RingLaws IsValue r) where
  pub nought-add : (x : A) → IsValue x → r.add r.nought x ≡ x
  nought-add x v = laws.add_comm r.nought x laws.value_nought v ∙ laws.add-nought x v

  pub unit-mul : (x : A) → IsValue x → r.mul r.unit x ≡ x
  unit-mul x v = laws.mul_comm r.unit x laws.value_unit v ∙ laws.mul-unit x v

  pub add-mul : (x y z : A) → IsValue x → IsValue y → IsValue z → r.mul (r.add x y) z ≡ r.add (r.mul x z) (r.mul y z)
  add-mul x y z vx vy vz =
      let turned = laws.mul_comm (r.add x y) z (laws.value_add x y vx vy) vz in let spread = laws.mul-add z x y vz vx vy in
      let first = laws.mul_comm z x vz vx in let second = laws.mul_comm z y vz vy in
      rw (turned, spread, first, second) refl

  -- an x that is added to itself unchanged is nought
  pub from_double : (x : A) → IsValue x → r.add x x ≡ x → x ≡ r.nought
  from_double x v e =
      let n = laws.value_neg x v in
      sym (laws.add-nought x v) ∙ ap (r.add x) (sym (laws.add-neg x v)) ∙ sym (laws.add_assoc x x (r.neg x) v v n) ∙ ap (λ y. r.add y (r.neg x)) e ∙ laws.add-neg x v

  pub mul-nought : (x : A) → IsValue x → r.mul x r.nought ≡ r.nought
  mul-nought x v =
      let z = laws.value_nought in
      from_double (r.mul x r.nought) (laws.value_mul x r.nought v z) (sym (laws.mul-add x r.nought r.nought v z z) ∙ ap (r.mul x) (laws.add-nought r.nought z))

  pub nought-mul : (x : A) → IsValue x → r.mul r.nought x ≡ r.nought
  nought-mul x v = laws.mul_comm r.nought x laws.value_nought v ∙ mul-nought x v

  -- (x + y) + (z + w) = (x + z) + (y + w)
  pub add_across : (x y z w : A) → IsValue x → IsValue y → IsValue z → IsValue w → r.add (r.add x y) (r.add z w) ≡ r.add (r.add x z) (r.add y w)
  add_across x y z w vx vy vz vw =
      laws.add_assoc x y (r.add z w) vx vy (laws.value_add z w vz vw)
      ∙ ap (r.add x) (sym (laws.add_assoc y z w vy vz vw) ∙ ap (λ t. r.add t w) (laws.add_comm y z vy vz) ∙ laws.add_assoc z y w vz vy vw)
      ∙ sym (laws.add_assoc x z (r.add y w) vx vz (laws.value_add y w vy vw))

  -- the only y that x is added to for nought
  pub neg_only : (x y : A) → IsValue x → IsValue y → r.add x y ≡ r.nought → y ≡ r.neg x
  neg_only x y vx vy e =
      let n = laws.value_neg x vx in
      sym (nought-add y vy) ∙ ap (λ t. r.add t y) (sym (laws.add_comm (r.neg x) x n vx ∙ laws.add-neg x vx)) ∙ laws.add_assoc (r.neg x) x y n vx vy ∙ ap (r.add (r.neg x)) e ∙ laws.add-nought (r.neg x) n

  pub neg-nought : r.neg r.nought ≡ r.nought
  neg-nought = let z = laws.value_nought in sym (neg_only r.nought r.nought z z (laws.add-nought r.nought z))

  pub neg-neg : (x : A) → IsValue x → r.neg (r.neg x) ≡ x
  neg-neg x v = let n = laws.value_neg x v in sym (neg_only (r.neg x) x n v (laws.add_comm (r.neg x) x n v ∙ laws.add-neg x v))

  pub neg-add : (x y : A) → IsValue x → IsValue y → r.neg (r.add x y) ≡ r.add (r.neg x) (r.neg y)
  neg-add x y vx vy =
      let nx = laws.value_neg x vx in let ny = laws.value_neg y vy in
      sym (neg_only (r.add x y) (r.add (r.neg x) (r.neg y)) (laws.value_add x y vx vy) (laws.value_add (r.neg x) (r.neg y) nx ny)
      (add_across x y (r.neg x) (r.neg y) vx vy nx ny ∙ rw (laws.add-neg x vx, laws.add-neg y vy) (laws.add-nought r.nought laws.value_nought)))

  pub neg-mul : (x y : A) → IsValue x → IsValue y → r.mul (r.neg x) y ≡ r.neg (r.mul x y)
  neg-mul x y vx vy =
      let n = laws.value_neg x vx in
      neg_only (r.mul x y) (r.mul (r.neg x) y) (laws.value_mul x y vx vy) (laws.value_mul (r.neg x) y n vy)
      (sym (add-mul x (r.neg x) y vx n vy) ∙ ap (λ t. r.mul t y) (laws.add-neg x vx) ∙ nought-mul y vy)
