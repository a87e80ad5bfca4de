-- What a quotient of series asks of reaches, and when a coefficient of it is too wide.
--
--   ReachesAddUpTimes r m xs ys == the reach of each coefficient of xs, and m times that of each of ys, add up to at most 2^60
--   QuotientReaches r a b       == so they do for a and b, with m the number of exponents of the quotient
--   owed_size r d g k           == size (d 0) * size (g k) + .. + size (d (k - 1)) * size (g 1)
--   quotient_size r f g d k     == size (f k) + owed_size r d g k
--   IsQuotientWide r a b n      == n is known in the quotient, and the size of a there and those of the terms that are taken away add up to more than the limit
use Rattle.std.specs.Prelude.{ℕ, ◌+◌, ◌*◌, ◌<◌, ◌≤◌, ℤ, min, List, length}
use Rattle.tv_ring.specs.Operations.{Operations, reach_limit}
use Rattle.tv_ring.specs.Sums.{at, size_term, total_below}
use Rattle.tv_laws_series.specs.Terms.{Terms}
use Rattle.tv_laws_series.specs.Quotients.{series_quotient}
use Rattle.tv_laurent.specs.SeriesCalls.{IsWideAt}

abbrev pub ReachesAddUpTimes : {A : Type 0} → Operations A → ℕ → List A → List A → Type 0
ReachesAddUpTimes r m xs ys = (i j : ℕ) → i < length xs → j < length ys → r.reach (at r xs i) + m * r.reach (at r ys j) ≤ reach_limit

abbrev pub QuotientReaches : {A : Type 0} → Operations A → Terms A → Terms A → Type 0
QuotientReaches r a b = ReachesAddUpTimes r (min (length a.coefficients) (length b.coefficients)) a.coefficients b.coefficients

unfoldable pub owed_size : {A : Type 0} → Operations A → (ℕ → A) → (ℕ → A) → ℕ → ℕ
owed_size r d g k = total_below (size_term r d g k) k

unfoldable pub quotient_size : {A : Type 0} → Operations A → (ℕ → A) → (ℕ → A) → (ℕ → A) → ℕ → ℕ
quotient_size r f g d k = r.size (f k) + owed_size r d g k

abbrev pub IsQuotientWide : {A : Type 0} → Operations A → Terms A → Terms A → ℤ → Type 0
IsQuotientWide r a b n =
    IsWideAt a.low n (min (length a.coefficients) (length b.coefficients)) (quotient_size r (at r a.coefficients) (at r b.coefficients) (at r (series_quotient r a b).coefficients))
