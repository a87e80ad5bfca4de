-- The laws of quotients of series by a series that begins with one.
--
--   QuotientTimesDivisor IsValue r == the quotient times the divisor is the dividend, through the quotient's last exponent
--   DivisionUndoes IsValue r       == a product divided by its second factor is the first, through the quotient's last exponent
--   OnlyQuotient IsValue r         == no other series from the dividend's low, known as far, times the divisor is the dividend
--   QuotientHasValues IsValue r    == the coefficients of a quotient are values
use Rattle.std.specs.Prelude.{◌≡◌}
use Rattle.tv_ring.specs.Operations.{Operations}
use Rattle.tv_laws_series.specs.Terms.{Terms, upto}
use Rattle.tv_laws_series.specs.Series.{series_product, series_cut}
use Rattle.tv_laws_series.specs.SeriesLaws.{HasValues}
use Rattle.tv_laws_series.specs.Quotients.{series_quotient, quotient_upto, IsUnitSeries}

abbrev pub QuotientTimesDivisor : {A : Type 0} → (A → Type 0) → Operations A → Type 0
QuotientTimesDivisor {A} IsValue r = (a b : Terms A) → HasValues IsValue r a → HasValues IsValue r b → IsUnitSeries r b
    → series_product r (series_quotient r a b) b ≡ series_cut (quotient_upto a b) a

abbrev pub DivisionUndoes : {A : Type 0} → (A → Type 0) → Operations A → Type 0
DivisionUndoes {A} IsValue r = (d b : Terms A) → HasValues IsValue r d → HasValues IsValue r b → IsUnitSeries r b
    → series_quotient r (series_product r d b) b ≡ series_cut (quotient_upto d b) d

abbrev pub OnlyQuotient : {A : Type 0} → (A → Type 0) → Operations A → Type 0
OnlyQuotient {A} IsValue r = (a b d : Terms A) → HasValues IsValue r a → HasValues IsValue r b → HasValues IsValue r d
    → IsUnitSeries r b → d.low ≡ a.low → upto d ≡ quotient_upto a b → series_product r d b ≡ series_cut (quotient_upto a b) a
    → d ≡ series_quotient r a b

abbrev pub QuotientHasValues : {A : Type 0} → (A → Type 0) → Operations A → Type 0
QuotientHasValues {A} IsValue r = (a b : Terms A) → HasValues IsValue r a → HasValues IsValue r b → HasValues IsValue r (series_quotient r a b)
