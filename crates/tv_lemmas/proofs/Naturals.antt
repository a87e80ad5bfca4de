-- Natural numbers: whole numbers read as such, tests of two, and the greatest of three.
use Rattle.std.specs.Prelude.{◌≡◌, ℕ, zero, suc, ◌<◌, ◌≤◌, max, ℤ, pos, negsuc, ◌≤ℤ◌, true, nat_eq, nat_lt}
use Rattle.std.proofs.Common.{refl, arith}
use Rattle.std.proofs.lemmas.Int.{ints}
use Rattle.std.proofs.lemmas.Bool.Decides.{nat_tests}
use Rattle.tv_lemmas.specs.Naturals.{as_natural}

-- ---- whole numbers read as natural ones
pub as_natural-is : (z : ℤ) → pos 0 ≤ℤ z → z ≡ pos (as_natural z)
as_natural-is (pos n) h = refl
as_natural-is (negsuc n) h = absurd (omega (arith, ints))

pub as_natural-none : (z : ℤ) → z ≤ℤ pos 0 → as_natural z ≡ 0
as_natural-none (pos zero) h = refl
as_natural-none (pos (suc n)) h = absurd (omega (arith, ints))
as_natural-none (negsuc n) h = refl

pub as_natural-above : (z : ℤ) → z ≤ℤ pos (as_natural z)
as_natural-above (pos n) = omega (arith, ints)
as_natural-above (negsuc n) = omega (arith, ints)

-- ---- tests of two numbers
pub nat_lt-tells : (m n : ℕ) → nat_lt m n ≡ true → m < n
nat_lt-tells m n e = grind (arith, nat_tests)

pub nat_eq-tells : (m n : ℕ) → nat_eq m n ≡ true → m ≡ n
nat_eq-tells m n e = grind (arith, nat_tests)

-- ---- the greatest of three
pub first-max : (a b c : ℕ) → a ≤ max a (max b c)
first-max a b c = omega arith

pub second-max : (a b c : ℕ) → b ≤ max a (max b c)
second-max a b c = omega arith

pub third-max : (a b c : ℕ) → c ≤ max a (max b c)
third-max a b c = omega arith
