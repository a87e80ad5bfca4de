-- A series counted from exponent 0.
--
-- counted r s j        == the coefficient of s at the exponent j
-- from_zero r s k      == the coefficients of s from exponent 0, k of them
use Rattle.std.specs.Prelude.{ℕ, pos}
use Rattle.tv_ring.specs.Operations.{Operations}
use Rattle.tv_laws_series.specs.Terms.{Terms, terms, listed}
use Rattle.tv_spec_series.specs.Families.{coefficient}

unfoldable pub counted : {A : Type 0} → Operations A → Terms A → ℕ → A
counted r s j = coefficient r s (pos j)

abbrev pub from_zero : {A : Type 0} → Operations A → Terms A → ℕ → Terms A
from_zero r s k = terms (pos 0) (listed (counted r s) k)
