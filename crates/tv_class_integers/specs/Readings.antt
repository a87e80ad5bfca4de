-- The integers of one class, read off from the greatest genus down, on numbers alone. All coefficients stand by weight, and
-- the exponent 0 has the weight base. The series S is in the variable q, the product R over the integers of earlier classes in
-- y = -q. Integers are listed with the last one in front; they were read at the weights 0, 1, 2, ..
--
-- genus_at base s    == base + 1 - s: the genus of the integer that is read at the weight s
-- power_sum base xs t == the powers at the weight t of the integers xs together
-- power_size base xs t == the sizes of these together
-- product_at base R xs t == the product with these integers, to first order
-- sign_at base t     == the sign between y and q at the weight t
-- next_value base S R xs == the next integer: at its own weight the series less the product so far
-- readings base S R n == the first n integers
-- all_readings base S R == the integers of genus base + 1 down to 0
-- size_at base S R xs t == the sizes of the series, of the product before and of all powers at the weight t
-- IsReading base n S R values powers == values are all the integers, in the order in which they were read, and powers the first
--                       n of the powers that they add together
use Rattle.std.specs.Prelude.{◌≡◌, ℕ, zero, suc, ◌+◌, ◌-◌, ℤ, pos, ◌+ℤ◌, ◌-ℤ◌, ◌*ℤ◌, unsigned_abs, List, [], ◌∷◌, length, reverse}
use Rattle.tv_spec_katz.specs.Binomials.{power_sign}
use Rattle.tv_class_integers.specs.Powers.{added}
use Rattle.tv_class_integers.specs.Rows.{IsRow}

abbrev pub genus_at : ℕ → ℕ → ℕ
genus_at base s = (base + 1) - s

abbrev pub power_sum : ℕ → List ℤ → ℕ → ℤ
power_sum base [] t = pos 0
power_sum base (x ∷ xs) t = power_sum base xs t +ℤ added (length xs) (genus_at base (length xs)) x t

abbrev pub power_size : ℕ → List ℤ → ℕ → ℕ
power_size base [] t = 0
power_size base (x ∷ xs) t = power_size base xs t + unsigned_abs (added (length xs) (genus_at base (length xs)) x t)

abbrev pub product_at : ℕ → (ℕ → ℤ) → List ℤ → ℕ → ℤ
product_at base R xs t = R t -ℤ power_sum base xs t

abbrev pub sign_at : ℕ → ℕ → ℤ
sign_at base t = power_sign (t + base)

abbrev pub next_value : ℕ → (ℕ → ℤ) → (ℕ → ℤ) → List ℤ → ℤ
next_value base S R xs = let s = length xs in S s -ℤ (sign_at base s *ℤ product_at base R xs s)

unfoldable pub readings : ℕ → (ℕ → ℤ) → (ℕ → ℤ) → ℕ → List ℤ
readings base S R zero = []
readings base S R (suc n) = let xs = readings base S R n in next_value base S R xs ∷ xs

abbrev pub all_readings : ℕ → (ℕ → ℤ) → (ℕ → ℤ) → List ℤ
all_readings base S R = readings base S R (base + 2)

abbrev pub size_at : ℕ → (ℕ → ℤ) → (ℕ → ℤ) → List ℤ → ℕ → ℕ
size_at base S R xs t = (unsigned_abs (S t) + unsigned_abs (R t)) + power_size base xs t

pub record IsReading (base n : ℕ) (S R : ℕ → ℤ) (values powers : List ℤ) : Type 0 where
  pub read : values ≡ reverse (all_readings base S R)
  pub gathered : IsRow n (power_sum base (all_readings base S R)) powers
