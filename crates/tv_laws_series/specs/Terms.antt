-- Coefficients at consecutive exponents.
--
--   Terms A             == coefficients in A, from a lowest exponent on
--   terms low xs        == these coefficients, the first at low
--   above m n           == how far the exponent n is above m, and 0 where it is not
--   upto t              == the exponent of the last coefficient, low - 1 where there is none
--   IsWithin n          == the absolute value of n is at most 2^60
--   IsBounded t         == the lowest exponent and the last one are within 2^60
--   padded r d f        == the sequence f after d noughts
--   from r m t          == the coefficients from an exponent m that is at most its low, as a sequence
--   known m t           == how many exponents there are from an exponent m that is at most its low, through the last one
--   listed f n          == the list f 0, f 1, .., f (n - 1)
--   plus r f g          == the sequence of the sums f k + g k
--   scaled r c f        == the sequence of the products c * f k
use Rattle.std.specs.Prelude.{ℕ, zero, suc, ◌+◌, ◌≤◌, ℤ, pos, ◌+ℤ◌, ◌-ℤ◌, unsigned_abs, List, length, map}
use Rattle.std.specs.List.{range_with_len}
use Rattle.tv_lemmas.specs.Naturals.{as_natural}
use Rattle.tv_ring.specs.Operations.{Operations, reach_limit}
use Rattle.tv_ring.specs.Sums.{at}

pub record Terms (A : Type 0) : Type 0 where
  pub low : ℤ
  pub coefficients : List A

abbrev pub terms : {A : Type 0} → ℤ → List A → Terms A
terms low xs = record { low = low; coefficients = xs }

unfoldable pub above : ℤ → ℤ → ℕ
above m n = as_natural (n -ℤ m)

abbrev pub upto : {A : Type 0} → Terms A → ℤ
upto t = (t.low +ℤ pos (length t.coefficients)) -ℤ pos 1

abbrev pub IsWithin : ℤ → Type 0
IsWithin n = unsigned_abs n ≤ reach_limit

pub record IsBounded {A : Type 0} (t : Terms A) : Type 0 where
  pub low : IsWithin t.low
  pub upto : IsWithin (upto t)

unfoldable pub padded : {A : Type 0} → Operations A → ℕ → (ℕ → A) → ℕ → A
padded r zero f k = f k
padded r (suc d) f zero = r.nought
padded r (suc d) f (suc k) = padded r d f k

unfoldable pub from : {A : Type 0} → Operations A → ℤ → Terms A → ℕ → A
from r m t = padded r (above m t.low) (at r t.coefficients)

abbrev pub known : {A : Type 0} → ℤ → Terms A → ℕ
known m t = above m t.low + length t.coefficients

unfoldable pub listed : {A : Type 0} → (ℕ → A) → ℕ → List A
listed f n = map f (range_with_len 0 n)

unfoldable pub plus : {A : Type 0} → Operations A → (ℕ → A) → (ℕ → A) → ℕ → A
plus r f g k = r.add (f k) (g k)

unfoldable pub scaled : {A : Type 0} → Operations A → A → (ℕ → A) → ℕ → A
scaled r c f k = r.mul c (f k)
