-- What a commutative ring with one is, over the values of a type.
--
--   Operations A          == the operations on A: nought, unit, add, mul, neg, whether an element is nought, its size and its reach
--   RingLaws IsValue r    == the values are closed under the operations, which are those of a commutative ring with one
--   SizeLaws IsValue r    == sizes and reaches of sums, products and negatives of values
--   limit                 == the greatest absolute value of a whole coefficient
--   reach_limit           == the greatest exponent that is ever reached
use Rattle.std.specs.Prelude.{◌≡◌, ℕ, ◌+◌, ◌-◌, ◌*◌, ◌^◌, ◌≤◌, max, Bool, true}

abbrev pub limit : ℕ
limit = 2 ^ 127 - 1

abbrev pub reach_limit : ℕ
reach_limit = 2 ^ 60

pub record Operations (A : Type 0) : Type 0 where
  pub nought : A
  pub unit : A
  pub add : A → A → A
  pub mul : A → A → A
  pub neg : A → A
  pub is_nought : A → Bool
  pub size : A → ℕ
  pub reach : A → ℕ

pub record RingLaws {A : Type 0} (IsValue : A → Type 0) (r : Operations A) : Type 0 where
  pub value_nought : IsValue r.nought
  pub value_unit : IsValue r.unit
  pub value_add : (x y : A) → IsValue x → IsValue y → IsValue (r.add x y)
  pub value_mul : (x y : A) → IsValue x → IsValue y → IsValue (r.mul x y)
  pub value_neg : (x : A) → IsValue x → IsValue (r.neg x)
  pub is_nought-nought : r.is_nought r.nought ≡ true
  pub only_nought : (x : A) → IsValue x → r.is_nought x ≡ true → x ≡ r.nought
  pub add_comm : (x y : A) → IsValue x → IsValue y → r.add x y ≡ r.add y x
  pub add_assoc : (x y z : A) → IsValue x → IsValue y → IsValue z → r.add (r.add x y) z ≡ r.add x (r.add y z)
  pub add-nought : (x : A) → IsValue x → r.add x r.nought ≡ x
  pub add-neg : (x : A) → IsValue x → r.add x (r.neg x) ≡ r.nought
  pub mul_comm : (x y : A) → IsValue x → IsValue y → r.mul x y ≡ r.mul y x
  pub mul_assoc : (x y z : A) → IsValue x → IsValue y → IsValue z → r.mul (r.mul x y) z ≡ r.mul x (r.mul y z)
  pub mul-unit : (x : A) → IsValue x → r.mul x r.unit ≡ x
  pub mul-add : (x y z : A) → IsValue x → IsValue y → IsValue z → r.mul x (r.add y z) ≡ r.add (r.mul x y) (r.mul x z)

pub record SizeLaws {A : Type 0} (IsValue : A → Type 0) (r : Operations A) : Type 0 where
  pub size-nought : r.size r.nought ≡ 0
  pub size-unit : r.size r.unit ≤ 1
  pub size-neg : (x : A) → IsValue x → r.size (r.neg x) ≡ r.size x
  pub size-add : (x y : A) → IsValue x → IsValue y → r.size (r.add x y) ≤ r.size x + r.size y
  pub size-mul : (x y : A) → IsValue x → IsValue y → r.size (r.mul x y) ≤ r.size x * r.size y
  pub reach-nought : r.reach r.nought ≡ 0
  pub reach-unit : r.reach r.unit ≡ 0
  pub reach-neg : (x : A) → IsValue x → r.reach (r.neg x) ≡ r.reach x
  pub reach-add : (x y : A) → IsValue x → IsValue y → r.reach (r.add x y) ≤ max (r.reach x) (r.reach y)
  pub reach-mul : (x y : A) → IsValue x → IsValue y → r.reach (r.mul x y) ≤ r.reach x + r.reach y
