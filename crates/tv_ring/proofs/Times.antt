-- The multiples of one in a ring, which add and multiply as the numbers do.
use Rattle.std.proofs.Common.{◌≡◌, ℕ, zero, suc, ◌+◌, ◌*◌, refl, sym, ◌∙◌, ap, arith, mul-suc, ℤ, pos, negsuc, ◌+ℤ◌, ◌-ℤ◌, ◌*ℤ◌, neg_ℤ}
use Rattle.std.proofs.lemmas.Int.{ints}
use borrow.Author.Differences.{up, down, same_in, product_is, neg_is}
use Rattle.tv_ring.specs.Operations.{Operations, RingLaws}
use Rattle.tv_ring.specs.Sums.{times, whole_times}
use Rattle.tv_ring.specs.Whole.{wholes}
use Rattle.tv_ring.specs.Integers.{+ℤ-neg}
use Rattle.tv_ring.proofs.Rings.{nought-add, mul-nought, add_across, neg_only, neg-nought, neg-add, neg-mul}

pub times-none : {A : Type 0} (r : Operations A) → times r 0 ≡ r.nought
unfolding times
times-none r = refl

pub times-more : {A : Type 0} (r : Operations A) (n : ℕ) → times r (suc n) ≡ r.add (times r n) r.unit
unfolding times
times-more r n = refl

pub whole_times-pos : {A : Type 0} (r : Operations A) (n : ℕ) → whole_times r (pos n) ≡ times r n
unfolding whole_times
whole_times-pos r n = refl

pub whole_times-negsuc : {A : Type 0} (r : Operations A) (n : ℕ) → whole_times r (negsuc n) ≡ r.neg (times r (suc n))
unfolding whole_times
whole_times-negsuc r n = refl

module _ {A : Type 0} {IsValue : A → Type 0} {r : Operations A} (laws : RingLaws IsValue r) where
  pub value_times : (n : ℕ) → IsValue (times r n)
  value_times zero = rw (times-none r) laws.value_nought
  value_times (suc n) = rw (times-more r n) (laws.value_add (times r n) r.unit (value_times n) laws.value_unit)

  pub times-one : times r 1 ≡ r.unit
  times-one = rw (times-more r 0, times-none r) (nought-add laws r.unit laws.value_unit)

  pub times-add : (m n : ℕ) → times r (m + n) ≡ r.add (times r m) (times r n)
  times-add m zero = let e : m + 0 ≡ m = omega arith in rw (e, times-none r) (sym (laws.add-nought (times r m) (value_times m)))
  times-add m (suc n) =
      let e : m + suc n ≡ suc (m + n) = omega arith in
      rw (e, times-more r (m + n), times-more r n, times-add m n) (laws.add_assoc (times r m) (times r n) r.unit (value_times m) (value_times n) laws.value_unit)

  pub times-mul : (m n : ℕ) → times r (m * n) ≡ r.mul (times r m) (times r n)
  times-mul m zero = let e : m * 0 ≡ 0 = omega arith in rw (e, times-none r) (sym (mul-nought laws (times r m) (value_times m)))
  times-mul m (suc n) =
      let e : m * suc n ≡ m * n + m = mul-suc m n in
      rw (e, times-add (m * n) m, times-more r n, times-mul m n, laws.mul-add (times r m) (times r n) r.unit (value_times m) (value_times n) laws.value_unit, laws.mul-unit (times r m) (value_times m)) refl

  pub value_whole_times : (z : ℤ) → IsValue (whole_times r z)
  value_whole_times (pos n) = rw (whole_times-pos r n) (value_times n)
  value_whole_times (negsuc n) = rw (whole_times-negsuc r n) (laws.value_neg (times r (suc n)) (value_times (suc n)))

  -- (x + 1) - (y + 1) = x - y
  one_less : (x y : A) → IsValue x → IsValue y → r.add (r.add x r.unit) (r.neg (r.add y r.unit)) ≡ r.add x (r.neg y)
  one_less x y vx vy =
      let u = laws.value_unit in let n = laws.value_neg y vy in let m = laws.value_neg r.unit u in
      rw (neg-add laws y r.unit vy u, add_across laws x r.unit (r.neg y) (r.neg r.unit) vx u n m, laws.add-neg r.unit u) (laws.add-nought (r.add x (r.neg y)) (laws.value_add x (r.neg y) vx n))

  -- a difference of two numbers
  pub whole_times-sub : (m n : ℕ) → whole_times r (pos m -ℤ pos n) ≡ r.add (times r m) (r.neg (times r n))
  whole_times-sub m zero =
      let e : pos m -ℤ pos 0 ≡ pos m = omega (arith, ints) in
      rw (e, whole_times-pos r m, times-none r, neg-nought laws) (sym (laws.add-nought (times r m) (value_times m)))
  whole_times-sub zero (suc n) =
      let e : pos 0 -ℤ pos (suc n) ≡ negsuc n = omega (arith, ints) in
      rw (e, whole_times-negsuc r n, times-none r) (sym (nought-add laws (r.neg (times r (suc n))) (laws.value_neg (times r (suc n)) (value_times (suc n)))))
  whole_times-sub (suc m) (suc n) =
      let e : pos (suc m) -ℤ pos (suc n) ≡ pos m -ℤ pos n = omega (arith, ints) in
      rw (e, whole_times-sub m n, times-more r m, times-more r n) (sym (one_less (times r m) (times r n) (value_times m) (value_times n)))

  -- a whole number, read as what it is above 0 less what it is below
  whole_times-parts : (z : ℤ) → whole_times r z ≡ r.add (times r (up z)) (r.neg (times r (down z)))
  whole_times-parts z = let e : z ≡ pos (up z) -ℤ pos (down z) = omega (arith, ints) in ap (whole_times r) e ∙ whole_times-sub (up z) (down z)

  pub whole_times-add : (z w : ℤ) → whole_times r (z +ℤ w) ≡ r.add (whole_times r z) (whole_times r w)
  whole_times-add z w =
      let e : z +ℤ w ≡ pos (up z + up w) -ℤ pos (down z + down w) = omega (arith, ints) in
      let a = value_times (up z) in let b = value_times (down z) in let c = value_times (up w) in let d = value_times (down w) in
      rw (e, whole_times-sub (up z + up w) (down z + down w), times-add (up z) (up w), times-add (down z) (down w), neg-add laws (times r (down z)) (times r (down w)) b d, whole_times-parts z, whole_times-parts w)
      (add_across laws (times r (up z)) (times r (up w)) (r.neg (times r (down z))) (r.neg (times r (down w))) a c (laws.value_neg (times r (down z)) b) (laws.value_neg (times r (down w)) d))

  pub whole_times-neg : (z : ℤ) → whole_times r (neg_ℤ z) ≡ r.neg (whole_times r z)
  whole_times-neg z = neg_only laws (whole_times r z) (whole_times r (neg_ℤ z)) (value_whole_times z) (value_whole_times (neg_ℤ z))
      (sym (whole_times-add z (neg_ℤ z)) ∙ ap (whole_times r) (+ℤ-neg z) ∙ whole_times-pos r 0 ∙ times-none r)

  times_by-pos : (m : ℕ) (w : ℤ) → whole_times r (pos m *ℤ w) ≡ r.mul (times r m) (whole_times r w)
  times_by-pos m (pos n) = let e : pos m *ℤ pos n ≡ pos (m * n) = refl in rw (e, whole_times-pos r (m * n), whole_times-pos r n) (times-mul m n)
  times_by-pos m (negsuc n) =
      let e : pos m *ℤ negsuc n ≡ neg_ℤ (pos (m * suc n)) = same_in _ _ (let p = product_is (pos m) (negsuc n) in let q = neg_is (pos (m * suc n)) in rw (p.0, p.1) (omega arith)) in
      let a = value_times m in let b = value_times (suc n) in
      rw (e, whole_times-neg (pos (m * suc n)), whole_times-pos r (m * suc n), times-mul m (suc n), whole_times-negsuc r n)
      (ap r.neg (laws.mul_comm (times r m) (times r (suc n)) a b) ∙ sym (neg-mul laws (times r (suc n)) (times r m) b a) ∙ laws.mul_comm (r.neg (times r (suc n))) (times r m) (laws.value_neg (times r (suc n)) b) a)

  pub whole_times-mul : (z w : ℤ) → whole_times r (z *ℤ w) ≡ r.mul (whole_times r z) (whole_times r w)
  whole_times-mul (pos m) w = rw (times_by-pos m w, whole_times-pos r m) refl
  whole_times-mul (negsuc m) w =
      let e : negsuc m *ℤ w ≡ neg_ℤ (pos (suc m) *ℤ w) = same_in _ _ (let p = product_is (negsuc m) w in let q = product_is (pos (suc m)) w in let n = neg_is (pos (suc m) *ℤ w) in rw (p.0, p.1, n.0, n.1, q.0, q.1) (omega arith)) in
      rw (e, whole_times-neg (pos (suc m) *ℤ w), times_by-pos (suc m) w, whole_times-negsuc r m) (sym (neg-mul laws (times r (suc m)) (whole_times r w) (value_times (suc m)) (value_whole_times w)))

pub times-wholes : (n : ℕ) → times wholes n ≡ pos n
times-wholes zero = times-none wholes
times-wholes (suc n) = let rest = times-wholes n in rw (times-more wholes n, rest) (ap pos (omega arith))

pub whole_times-wholes : (z : ℤ) → whole_times wholes z ≡ z
whole_times-wholes (pos n) = whole_times-pos wholes n ∙ times-wholes n
whole_times-wholes (negsuc n) = whole_times-negsuc wholes n ∙ ap neg_ℤ (times-wholes (suc n))
