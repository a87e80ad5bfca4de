-- Binomial coefficients with any whole upper entry, and the powers of 1 - X.
--
-- choose n k     == the number of ways to choose k of n
-- power_sign k   == (-1)^k
-- binomial e k   == e (e - 1) .. (e - k + 1) / k!; for negative e it is (-1)^k times binomial (k - e - 1) k
-- power_at e k   == the coefficient of X^k in (1 - X)^e
-- sum_below f n  == f 0 + f 1 + .. + f (n - 1)
use Rattle.std.specs.Prelude.{ℕ, zero, suc, ◌+◌, ◌%◌, ℤ, pos, negsuc, ◌+ℤ◌, ◌*ℤ◌, cond, nat_eq}

unfoldable pub choose : ℕ → ℕ → ℕ
choose n zero = 1
choose zero (suc k) = 0
choose (suc n) (suc k) = choose n k + choose n (suc k)

abbrev pub power_sign : ℕ → ℤ
power_sign k = cond (nat_eq (k % 2) 0) (pos 1) (negsuc 0)

-- k - e - 1 is n + k at e = - (n + 1)
unfoldable pub binomial : ℤ → ℕ → ℤ
binomial (pos n) k = pos (choose n k)
binomial (negsuc n) k = power_sign k *ℤ pos (choose (n + k) k)

unfoldable pub power_at : ℤ → ℕ → ℤ
power_at e k = power_sign k *ℤ binomial e k

unfoldable pub sum_below : (ℕ → ℤ) → ℕ → ℤ
sum_below f zero = pos 0
sum_below f (suc n) = sum_below f n +ℤ f n
