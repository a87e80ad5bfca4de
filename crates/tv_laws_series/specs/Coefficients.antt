-- The coefficients of a series by exponent, and the laws that give those of sums, products and quotients.
--
--   coefficient r t n        == the coefficient of a series at n: nought below its lowest exponent and beyond its last
--   pairs r a b n k          == a at low a + k times b at n - low a - k
--   sum_of_pairs r a b n     == the sum of a at i times b at j over all i + j == n with i from low a and j from low b on
--   SumUpto, ProductUpto, QuotientUpto == the last exponent through which a sum, a product or a quotient is known
--   SumCoefficients IsValue r == each known coefficient of a sum is the sum of both coefficients
--   ProductCoefficients IsValue r == each known coefficient of a product is the sum of pairs
--   QuotientCoefficients IsValue r == for each exponent that the quotient knows, the sum of pairs of the quotient and the divisor
--                               is the coefficient of the dividend
use Rattle.std.specs.Prelude.{◌≡◌, ℕ, ℤ, pos, ◌+ℤ◌, ◌-ℤ◌, ◌≤ℤ◌, int_lt, if◌then◌else◌}
use Rattle.std.specs.Int.{int_min}
use Rattle.tv_ring.specs.Operations.{Operations}
use Rattle.tv_ring.specs.Sums.{at, sum_below}
use Rattle.tv_laws_series.specs.Terms.{Terms, above, upto}
use Rattle.tv_laws_series.specs.Series.{series_sum, series_product, product_upto}
use Rattle.tv_laws_series.specs.SeriesLaws.{HasValues}
use Rattle.tv_laws_series.specs.Quotients.{series_quotient, quotient_upto, IsUnitSeries}

unfoldable pub coefficient : {A : Type 0} → Operations A → Terms A → ℤ → A
coefficient r t n = if int_lt n t.low then r.nought else at r t.coefficients (above t.low n)

unfoldable pub pairs : {A : Type 0} → Operations A → Terms A → Terms A → ℤ → ℕ → A
pairs r a b n k = r.mul (coefficient r a (a.low +ℤ pos k)) (coefficient r b (n -ℤ (a.low +ℤ pos k)))

abbrev pub sum_of_pairs : {A : Type 0} → Operations A → Terms A → Terms A → ℤ → A
sum_of_pairs r a b n = sum_below r (pairs r a b n) (above (a.low +ℤ b.low) (n +ℤ pos 1))

abbrev pub SumUpto : {A : Type 0} → Operations A → Type 0
SumUpto {A} r = (a b : Terms A) → upto (series_sum r a b) ≡ int_min (upto a) (upto b)

abbrev pub SumCoefficients : {A : Type 0} → (A → Type 0) → Operations A → Type 0
SumCoefficients {A} IsValue r =
    (a b : Terms A) (n : ℤ) → HasValues IsValue r a → HasValues IsValue r b → n ≤ℤ int_min (upto a) (upto b)
    → coefficient r (series_sum r a b) n ≡ r.add (coefficient r a n) (coefficient r b n)

abbrev pub ProductUpto : {A : Type 0} → Operations A → Type 0
ProductUpto {A} r = (a b : Terms A) → upto (series_product r a b) ≡ product_upto a b

abbrev pub ProductCoefficients : {A : Type 0} → (A → Type 0) → Operations A → Type 0
ProductCoefficients {A} IsValue r =
    (a b : Terms A) (n : ℤ) → HasValues IsValue r a → HasValues IsValue r b → n ≤ℤ product_upto a b
    → coefficient r (series_product r a b) n ≡ sum_of_pairs r a b n

abbrev pub QuotientUpto : {A : Type 0} → Operations A → Type 0
QuotientUpto {A} r = (a b : Terms A) → IsUnitSeries r b → upto (series_quotient r a b) ≡ quotient_upto a b

abbrev pub QuotientCoefficients : {A : Type 0} → (A → Type 0) → Operations A → Type 0
QuotientCoefficients {A} IsValue r =
    (a b : Terms A) (n : ℤ) → HasValues IsValue r a → HasValues IsValue r b → IsUnitSeries r b → n ≤ℤ quotient_upto a b
    → sum_of_pairs r (series_quotient r a b) b n ≡ coefficient r a n
