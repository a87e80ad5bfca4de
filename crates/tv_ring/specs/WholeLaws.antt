-- The whole numbers are a ring.
--
--   whole_laws     == the laws of a ring, for whole numbers
--   whole_sizes    == the laws of sizes and reaches, for whole numbers
use Rattle.std.proofs.Common.{◌≡◌, ℕ, ℤ, pos, unsigned_abs, refl, arith, ◌==◌, true, le_of_eq}
use Rattle.std.proofs.lemmas.Int.{ints, unsigned_abs-mul}
use Rattle.std.proofs.lemmas.Bool.Decides.{nat_tests}
use Rattle.tv_ring.specs.Operations.{RingLaws, SizeLaws}
use Rattle.tv_ring.specs.Whole.{wholes, IsAny, is_zero}
use Rattle.tv_ring.specs.Integers.{+ℤ_comm, +ℤ_assoc, +ℤ-zero, +ℤ-neg, *ℤ_comm, *ℤ-one, *ℤ_assoc, *ℤ-+ℤ, unsigned_abs-neg, unsigned_abs-+ℤ}

zero_from_size : (n : ℕ) → (n == 0) ≡ true → n ≡ 0
zero_from_size n h = grind (arith, nat_tests)

only_zero : (x : ℤ) → is_zero x ≡ true → x ≡ pos 0
only_zero x h = let e = zero_from_size (unsigned_abs x) h in omega (arith, ints)

pub whole_laws : RingLaws IsAny wholes
whole_laws = record {
  value_nought = tt;
  value_unit = tt;
  value_add = λ x y _ _. tt;
  value_mul = λ x y _ _. tt;
  value_neg = λ x _. tt;
  is_nought-nought = refl;
  only_nought = λ x _ h. only_zero x h;
  add_comm = λ x y _ _. +ℤ_comm x y;
  add_assoc = λ x y z _ _ _. +ℤ_assoc x y z;
  add-nought = λ x _. +ℤ-zero x;
  add-neg = λ x _. +ℤ-neg x;
  mul_comm = λ x y _ _. *ℤ_comm x y;
  mul_assoc = λ x y z _ _ _. *ℤ_assoc x y z;
  mul-unit = λ x _. *ℤ-one x;
  mul-add = λ x y z _ _ _. *ℤ-+ℤ x y z;
}

pub whole_sizes : SizeLaws IsAny wholes
whole_sizes = record {
  size-nought = refl;
  size-unit = omega arith;
  size-neg = λ x _. unsigned_abs-neg x;
  size-add = λ x y _ _. unsigned_abs-+ℤ x y;
  size-mul = λ x y _ _. le_of_eq (unsigned_abs-mul x y);
  reach-nought = refl;
  reach-unit = refl;
  reach-neg = λ x _. refl;
  reach-add = λ x y _ _. omega arith;
  reach-mul = λ x y _ _. omega arith;
}
