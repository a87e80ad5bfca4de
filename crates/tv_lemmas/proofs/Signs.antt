-- Signs of integers, of products and as Bool tests.
--
-- positive z == the test of 0 < z
use Rattle.std.specs.Prelude.{◌+ℤ◌, ◌-ℤ◌, ◌≡◌, ◌≢◌, zero, suc, Bool, true, false, ℤ, pos, negsuc, ◌*ℤ◌, ◌≤ℤ◌, ◌<ℤ◌, ◌⊎◌, int_lt, ℕ, cond, unsigned_abs}
use Rattle.std.proofs.Common.{refl, arith, inl, inr}
use Rattle.std.proofs.lemmas.Int.{ints}

pub sign : (z : ℤ) → (z <ℤ pos 0) ⊎ ((z ≡ pos 0) ⊎ (pos 0 <ℤ z))
sign (pos zero) = inr (inl refl)
sign (pos (suc n)) = inr (inr (omega (arith, ints)))
sign (negsuc n) = inl (omega (arith, ints))

pub nonneg-positive : (z : ℤ) → pos 0 ≤ℤ z → z ≢ pos 0 → pos 0 <ℤ z
nonneg-positive z h apart = elim (sign z) [
  | inl less ↦ absurd (omega (arith, ints))
  | inr (inl same) ↦ absurd (apart same)
  | inr (inr more) ↦ more
]

-- of two integers that are not the same one is less
pub same-by_order : (s t : ℤ) → (s <ℤ t → ⊥) → (t <ℤ s → ⊥) → s ≡ t
same-by_order s t f g = elim (sign (t -ℤ s)) [
  | inl less ↦ absurd (g (omega (arith, ints)))
  | inr (inl same) ↦ omega (arith, ints)
  | inr (inr more) ↦ absurd (f (omega (arith, ints)))
]

pub mul-pos-pos : (a b : ℤ) → pos 0 <ℤ a → pos 0 <ℤ b → pos 0 <ℤ (a *ℤ b)
mul-pos-pos (pos zero) b h k = absurd (omega (arith, ints))
mul-pos-pos (pos (suc m)) (pos zero) h k = absurd (omega (arith, ints))
mul-pos-pos (pos (suc m)) (pos (suc n)) h k = omega (arith, ints)
mul-pos-pos (pos (suc m)) (negsuc n) h k = absurd (omega (arith, ints))
mul-pos-pos (negsuc m) b h k = absurd (omega (arith, ints))

pub mul-pos-neg : (a b : ℤ) → pos 0 <ℤ a → b <ℤ pos 0 → (a *ℤ b) <ℤ pos 0
mul-pos-neg (pos zero) b h k = absurd (omega (arith, ints))
mul-pos-neg (pos (suc m)) (pos n) h k = absurd (omega (arith, ints))
mul-pos-neg (pos (suc m)) (negsuc n) h k = omega (arith, ints)
mul-pos-neg (negsuc m) b h k = absurd (omega (arith, ints))

pub mul-nonneg-nonneg : (a b : ℤ) → pos 0 ≤ℤ a → pos 0 ≤ℤ b → pos 0 ≤ℤ (a *ℤ b)
mul-nonneg-nonneg (pos m) (pos n) h k = omega (arith, ints)
mul-nonneg-nonneg (pos m) (negsuc n) h k = absurd (omega (arith, ints))
mul-nonneg-nonneg (negsuc m) b h k = absurd (omega (arith, ints))

pub mul-nonneg-neg : (a b : ℤ) → pos 0 ≤ℤ a → b <ℤ pos 0 → (a *ℤ b) ≤ℤ pos 0
mul-nonneg-neg (pos m) (pos n) h k = absurd (omega (arith, ints))
mul-nonneg-neg (pos zero) (negsuc n) h k = omega (arith, ints)
mul-nonneg-neg (pos (suc m)) (negsuc n) h k = omega (arith, ints)
mul-nonneg-neg (negsuc m) b h k = absurd (omega (arith, ints))

pub mul-nonpos-pos : (a b : ℤ) → a ≤ℤ pos 0 → pos 0 <ℤ b → (a *ℤ b) ≤ℤ pos 0
mul-nonpos-pos (pos zero) (pos n) h k = omega (arith, ints)
mul-nonpos-pos (pos zero) (negsuc n) h k = absurd (omega (arith, ints))
mul-nonpos-pos (pos (suc m)) b h k = absurd (omega (arith, ints))
mul-nonpos-pos (negsuc m) (pos zero) h k = absurd (omega (arith, ints))
mul-nonpos-pos (negsuc m) (pos (suc n)) h k = omega (arith, ints)
mul-nonpos-pos (negsuc m) (negsuc n) h k = absurd (omega (arith, ints))

pub mul-nonpos-neg : (a b : ℤ) → a ≤ℤ pos 0 → b <ℤ pos 0 → pos 0 ≤ℤ (a *ℤ b)
mul-nonpos-neg (pos zero) (pos n) h k = absurd (omega (arith, ints))
mul-nonpos-neg (pos zero) (negsuc n) h k = omega (arith, ints)
mul-nonpos-neg (pos (suc m)) b h k = absurd (omega (arith, ints))
mul-nonpos-neg (negsuc m) (pos n) h k = absurd (omega (arith, ints))
mul-nonpos-neg (negsuc m) (negsuc n) h k = omega (arith, ints)

pub mul-neg-pos : (a b : ℤ) → a <ℤ pos 0 → pos 0 <ℤ b → (a *ℤ b) <ℤ pos 0
mul-neg-pos (pos m) b h k = absurd (omega (arith, ints))
mul-neg-pos (negsuc m) (pos zero) h k = absurd (omega (arith, ints))
mul-neg-pos (negsuc m) (pos (suc n)) h k = omega (arith, ints)
mul-neg-pos (negsuc m) (negsuc n) h k = absurd (omega (arith, ints))

pub mul-neg-neg : (a b : ℤ) → a <ℤ pos 0 → b <ℤ pos 0 → pos 0 <ℤ (a *ℤ b)
mul-neg-neg (pos m) b h k = absurd (omega (arith, ints))
mul-neg-neg (negsuc m) (pos n) h k = absurd (omega (arith, ints))
mul-neg-neg (negsuc m) (negsuc n) h k = omega (arith, ints)

-- a product with a positive factor has the sign of the other
pub mul-zero : (a b : ℤ) → pos 0 <ℤ a → a *ℤ b ≡ pos 0 → b ≡ pos 0
mul-zero a b h e = elim (sign b) [
  | inl less ↦ absurd (omega (arith, ints, mul-pos-neg a b h less))
  | inr (inl same) ↦ same
  | inr (inr more) ↦ absurd (omega (arith, ints, mul-pos-pos a b h more))
]

pub mul-positive : (a b : ℤ) → pos 0 ≤ℤ a → pos 0 <ℤ (a *ℤ b) → pos 0 <ℤ b
mul-positive a b h e = elim (sign b) [
  | inl less ↦ absurd (omega (arith, ints, mul-nonneg-neg a b h less))
  | inr (inl same) ↦ absurd (let z : a *ℤ pos 0 ≡ pos 0 = omega (arith, ints) in let f = rw same at e in omega (arith, ints))
  | inr (inr more) ↦ more
]

pub mul-negative : (a b : ℤ) → pos 0 ≤ℤ a → (a *ℤ b) <ℤ pos 0 → b <ℤ pos 0
mul-negative a b h e = elim (sign b) [
  | inl less ↦ less
  | inr (inl same) ↦ absurd (let f = rw same at e in omega (arith, ints))
  | inr (inr more) ↦ absurd (omega (arith, ints, mul-nonneg-nonneg a b h (omega (arith, ints))))
]

pub factor-zero : (a b : ℤ) → a *ℤ b ≡ pos 0 → b ≢ pos 0 → a ≡ pos 0
factor-zero a b e apart = elim (sign a) [
  | inl less ↦ elim (sign b) [
    | inl neg ↦ absurd (omega (arith, ints, mul-neg-neg a b less neg))
    | inr (inl zero_b) ↦ absurd (apart zero_b)
    | inr (inr more) ↦ absurd (omega (arith, ints, mul-neg-pos a b less more))
  ]
  | inr (inl same) ↦ same
  | inr (inr more) ↦ absurd (apart (mul-zero a b more e))
]

-- 1 has no factors but itself and -1
pub factor-one : (a b : ℤ) → pos 0 ≤ℤ a → a *ℤ b ≡ pos 1 → a ≡ pos 1
factor-one (pos zero) b h e = absurd (omega (arith, ints))
factor-one (pos (suc zero)) b h e = refl
factor-one (pos (suc (suc m))) (pos zero) h e = absurd (omega (arith, ints))
factor-one (pos (suc (suc m))) (pos (suc n)) h e = absurd (omega (arith, ints))
factor-one (pos (suc (suc m))) (negsuc n) h e = absurd (omega (arith, ints))
factor-one (negsuc m) b h e = absurd (omega (arith, ints))

-- squares, and an integer with the one before it
pub square-nonneg : (a : ℤ) → pos 0 ≤ℤ (a *ℤ a)
square-nonneg (pos n) = omega (arith, ints)
square-nonneg (negsuc n) = omega (arith, ints)

pub squares-positive : (a b : ℤ) → (a ≡ pos 0 → b ≡ pos 0 → ⊥) → pos 0 <ℤ ((a *ℤ a) +ℤ (b *ℤ b))
squares-positive a b apart = elim (sign a) [
  | inl less ↦ omega (arith, ints, mul-neg-neg a a less less, square-nonneg b)
  | inr (inl same) ↦ elim (sign b) [
    | inl less ↦ omega (arith, ints, mul-neg-neg b b less less, square-nonneg a)
    | inr (inl none) ↦ absurd (apart same none)
    | inr (inr more) ↦ omega (arith, ints, mul-pos-pos b b more more, square-nonneg a)
  ]
  | inr (inr more) ↦ omega (arith, ints, mul-pos-pos a a more more, square-nonneg b)
]

neighbours_by : (a b : ℤ) → b ≡ a -ℤ pos 1 → pos 0 ≤ℤ (a *ℤ b)
neighbours_by (pos zero) b e = omega (arith, ints)
neighbours_by (pos (suc m)) (pos n) e = omega (arith, ints)
neighbours_by (pos (suc m)) (negsuc n) e = absurd (omega (arith, ints))
neighbours_by (negsuc m) (pos n) e = absurd (omega (arith, ints))
neighbours_by (negsuc m) (negsuc n) e = omega (arith, ints)

pub neighbours-nonneg : (a : ℤ) → pos 0 ≤ℤ (a *ℤ (a -ℤ pos 1))
neighbours-nonneg a = neighbours_by a (a -ℤ pos 1) refl

-- as a Bool test
abbrev pub positive : ℤ → Bool
positive z = int_lt (pos 0) z

pub positive-true : (z : ℤ) → pos 0 <ℤ z → positive z ≡ true
positive-true z h = grind (arith, ints)

pub positive-false : (z : ℤ) → z ≤ℤ pos 0 → positive z ≡ false
positive-false z h = grind (arith, ints)

pub true-positive : (z : ℤ) → positive z ≡ true → pos 0 <ℤ z
true-positive z e = grind (arith, ints)

pub false-positive : (z : ℤ) → positive z ≡ false → z ≤ℤ pos 0
false-positive z e = grind (arith, ints)

-- the absolute value of a number with a sign
pub signed-size : (b : Bool) (n : ℕ) → unsigned_abs (cond b (pos 1) (negsuc 0) *ℤ pos n) ≡ n
signed-size true n = omega (arith, ints)
signed-size false n = omega (arith, ints)
