-- Where the series of a class and a product, in a row by weight, differ. The row is in the variable y = -q.
--
-- value_at base row n == the coefficient of the product at the exponent n, in q: 0 below - base
-- AgreeThrough f v base row n == the series of v and the product have one value at every exponent at most n
-- IsFirstUnequal f v base row d == d names the first exponent, through the last one of the family, at which they differ, and both values
use Rattle.std.specs.Prelude.{◌≡◌, ◌≢◌, ℕ, ℤ, pos, ◌+ℤ◌, ◌*ℤ◌, ◌≤ℤ◌, ◌<ℤ◌, int_lt, unsigned_abs, List, if◌then◌else◌}
use Rattle.tv_ring.specs.Whole.{wholes}
use Rattle.tv_ring.specs.Sums.{at}
use Rattle.tv_lemmas.specs.Naturals.{as_natural}
use Rattle.tv_spec_series.specs.Families.{Family, coefficient_of}
use Rattle.tv_spec_katz.specs.Binomials.{power_sign}
use Rattle.tv_cert.specs.declared.differences.Difference.{Difference}

abbrev pub value_at : ℕ → List ℤ → ℤ → ℤ
value_at base row n = if int_lt (n +ℤ pos base) (pos 0) then pos 0 else (power_sign (unsigned_abs n) *ℤ at wholes row (as_natural (n +ℤ pos base)))

abbrev pub AgreeThrough : Family ℤ → List ℤ → ℕ → List ℤ → ℤ → Type 0
AgreeThrough f v base row N = (n : ℤ) → n ≤ℤ N → coefficient_of wholes f v n ≡ value_at base row n

pub record IsFirstUnequal (f : Family ℤ) (v : List ℤ) (base : ℕ) (row : List ℤ) (d : Difference) : Type 0 where
  pub within : d.exponent ≤ℤ f.upto
  pub before : (n : ℤ) → n <ℤ d.exponent → coefficient_of wholes f v n ≡ value_at base row n
  pub series : d.series ≡ coefficient_of wholes f v d.exponent
  pub product : d.product ≡ value_at base row d.exponent
  pub differ : d.series ≢ d.product
