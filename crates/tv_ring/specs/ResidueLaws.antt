-- The remainders modulo a number are a ring.
--
--   least m x          == the remainder of x is a least remainder
--   residue_laws m     == the laws of a ring, for least remainders
--   residue_sizes m    == the laws of sizes and reaches, for least remainders
use Rattle.std.proofs.Common.{◌≡◌, ℕ, ◌+◌, ◌-◌, ◌*◌, ◌%◌, ◌<◌, refl, sym, ◌∙◌, ap, arith, ◌==◌, true, mod-eq_of_lt, mul_comm, mul_assoc, mul-add, mul-one}
use Rattle.std.proofs.lemmas.Nat.{mul-mod_first, mod_below}
use Rattle.std.proofs.Math.Nat.{mod-add-mod, add-mod-mod, mod_self}
use Rattle.std.proofs.lemmas.Bool.Decides.{nat_tests}
use Rattle.tv_ring.specs.Operations.{RingLaws, SizeLaws}
use Rattle.tv_ring.specs.Residue.{residues, modulus, IsRemainder}

module _ (m : ℕ) where
  pub least : (x : ℕ) → x % modulus m < modulus m
  least x = mod_below x (modulus m) (omega arith)

  same : (x : ℕ) → x < modulus m → x % modulus m ≡ x
  same x h = mod-eq_of_lt h

  add_first : (a b : ℕ) → (a % modulus m + b) % modulus m ≡ (a + b) % modulus m
  add_first a b = mod-add-mod a (modulus m) b

  add_second : (a b : ℕ) → (a + b % modulus m) % modulus m ≡ (a + b) % modulus m
  add_second a b = add-mod-mod a b (modulus m)

  mul_first : (a b : ℕ) → (a % modulus m * b) % modulus m ≡ (a * b) % modulus m
  mul_first a b = mul-mod_first a b (modulus m)

  mul_second : (a b : ℕ) → (a * (b % modulus m)) % modulus m ≡ (a * b) % modulus m
  mul_second a b = ap (λ n. n % modulus m) (mul_comm a (b % modulus m)) ∙ mul_first b a ∙ ap (λ n. n % modulus m) (mul_comm b a)

  negated : (x : ℕ) → x < modulus m → (x + (modulus m - x) % modulus m) % modulus m ≡ 0
  negated x h = add_second x (modulus m - x) ∙ ap (λ n. n % modulus m) (omega arith) ∙ mod_self (modulus m)

  zero_only : (x : ℕ) → (x == 0) ≡ true → x ≡ 0
  zero_only x h = grind (arith, nat_tests)

  pub residue_laws : RingLaws (IsRemainder m) (residues m)
  residue_laws = record {
    value_nought = omega arith;
    value_unit = least 1;
    value_add = λ x y _ _. least (x + y);
    value_mul = λ x y _ _. least (x * y);
    value_neg = λ x _. least (modulus m - x);
    is_nought-nought = refl;
    only_nought = λ x _ h. zero_only x h;
    add_comm = λ x y _ _. ap (λ n. n % modulus m) (omega arith);
    add_assoc = λ x y z _ _ _. add_first (x + y) z ∙ ap (λ n. n % modulus m) (omega arith) ∙ sym (add_second x (y + z));
    add-nought = λ x h. ap (λ n. n % modulus m) (omega arith) ∙ same x h;
    add-neg = λ x h. negated x h;
    mul_comm = λ x y _ _. ap (λ n. n % modulus m) (mul_comm x y);
    mul_assoc = λ x y z _ _ _. mul_first (x * y) z ∙ ap (λ n. n % modulus m) (mul_assoc x y z) ∙ sym (mul_second x (y * z));
    mul-unit = λ x h. mul_second x 1 ∙ ap (λ n. n % modulus m) (mul-one x) ∙ same x h;
    mul-add = λ x y z _ _ _. mul_second x (y + z) ∙ ap (λ n. n % modulus m) (mul-add x y z) ∙ sym (add_first (x * y) (x * z % modulus m) ∙ add_second (x * y) (x * z));
  }

  pub residue_sizes : SizeLaws (IsRemainder m) (residues m)
  residue_sizes = record {
    size-nought = refl;
    size-unit = omega arith;
    size-neg = λ x _. refl;
    size-add = λ x y _ _. omega arith;
    size-mul = λ x y _ _. omega arith;
    reach-nought = refl;
    reach-unit = refl;
    reach-neg = λ x _. refl;
    reach-add = λ x y _ _. omega arith;
    reach-mul = λ x y _ _. omega arith;
  }
