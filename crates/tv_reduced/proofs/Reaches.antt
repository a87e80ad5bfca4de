-- Multiples of one reach no exponent, so that a division of their series asks nothing of reaches.
use Rattle.std.proofs.Common.{◌≡◌, ℕ, suc, ◌<◌, sym, ap, ◌∙◌, arith}
use Rattle.std.specs.Prelude.{ℤ, pos, negsuc, ◌+ℤ◌, ◌≤ℤ◌, length}
use Rattle.std.proofs.lemmas.Int.{ints}
use Rattle.tv_ring.specs.Operations.{Operations, RingLaws, SizeLaws}
use Rattle.tv_ring.specs.Sums.{at, times, whole_times}
use Rattle.tv_ring.proofs.Times.{whole_times-pos, whole_times-negsuc, value_times}
use Rattle.tv_ring.proofs.Sizes.{reach-times}
use Rattle.tv_laws_series.specs.Terms.{Terms, above, upto}
use Rattle.tv_laws_series.proofs.Exponents.{above_is}
use Rattle.tv_laurent.specs.QuotientCalls.{QuotientReaches}
use Rattle.tv_spec_series.specs.Families.{coefficient}
use Rattle.tv_laws_series.proofs.Coefficients.{coefficient_at}

-- each coefficient that is known is a multiple of one
abbrev pub AreMultiples : {A : Type 0} → Operations A → Terms A → (ℤ → ℤ) → Type 0
AreMultiples r t z = (i : ℤ) → i ≤ℤ upto t → coefficient r t i ≡ whole_times r (z i)

module _ {A : Type 0} {IsValue : A → Type 0} {r : Operations A} (laws : RingLaws IsValue r) (sizes : SizeLaws IsValue r) where
  reach-whole_times : (z : ℤ) → r.reach (whole_times r z) ≡ 0
  reach-whole_times (pos n) = ap r.reach (whole_times-pos r n) ∙ reach-times laws sizes n
  reach-whole_times (negsuc n) = ap r.reach (whole_times-negsuc r n) ∙ (sizes.reach-neg (times r (suc n)) (value_times laws (suc n)) ∙ reach-times laws sizes (suc n))

  reach_none : (t : Terms A) (z : ℤ → ℤ) → AreMultiples r t z → (i : ℕ) → i < length t.coefficients → r.reach (at r t.coefficients i) ≡ 0
  reach_none t z all i h =
      let place : i ≡ above t.low (t.low +ℤ pos i) = omega (arith, ints, above_is t.low (t.low +ℤ pos i)) in
      let is : at r t.coefficients i ≡ whole_times r (z (t.low +ℤ pos i)) = ap (at r t.coefficients) place ∙ (sym (coefficient_at r t (t.low +ℤ pos i) (omega (arith, ints))) ∙ all (t.low +ℤ pos i) (omega (arith, ints))) in
      ap r.reach is ∙ reach-whole_times (z (t.low +ℤ pos i))

  pub multiples_reach : (a b : Terms A) (y z : ℤ → ℤ) → AreMultiples r a y → AreMultiples r b z → QuotientReaches r a b
  multiples_reach a b y z all also i j h k =
      let first = reach_none a y all i h in let second = reach_none b z also j k in
      rw (first, second) (omega arith)
