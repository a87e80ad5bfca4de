-- Where a series and a product differ, by weight. The series S is in the variable q, the product P in y = -q.
--
-- AgreeBelow base S P n == at each weight below n both have one value
-- IsFirstDifference base S P n d == d names the first weight below n at which they differ, and both values
use Rattle.std.specs.Prelude.{◌≡◌, ◌≢◌, ℕ, ◌<◌, ℤ, ◌*ℤ◌}
use Rattle.tv_class_integers.specs.declared.differences.Difference.{Difference}
use Rattle.tv_class_integers.specs.Readings.{sign_at}

abbrev pub AgreeBelow : ℕ → (ℕ → ℤ) → (ℕ → ℤ) → ℕ → Type 0
AgreeBelow base S P n = (t : ℕ) → t < n → S t ≡ sign_at base t *ℤ P t

pub record IsFirstDifference (base : ℕ) (S P : ℕ → ℤ) (n : ℕ) (d : Difference) : Type 0 where
  pub within : d.weight < n
  pub before : AgreeBelow base S P d.weight
  pub series : d.series ≡ S d.weight
  pub product : d.product ≡ sign_at base d.weight *ℤ P d.weight
  pub differ : d.series ≢ d.product
