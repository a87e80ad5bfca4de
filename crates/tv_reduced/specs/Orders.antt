-- How far the series of class zero has to be known.
--
-- StartsFrom low x    == the row's series starts at low or above
-- ReachedBy n k x     == k reaches from the low of the row's series to n
-- IsOrder n rows k    == k is at least 0, reaches from the low of each row to n, and is no greater than that asks
use Rattle.std.specs.Prelude.{ℤ, pos, ◌+ℤ◌, ◌-ℤ◌, ◌≤ℤ◌, List}
use Rattle.std.specs.List.{AllByRecursion}
use Rattle.std.specs.Int.{int_max}
use Rattle.tv_spec_series.specs.Families.{Row}

abbrev pub StartsFrom : {A : Type 0} → ℤ → Row A → Type 0
StartsFrom low x = low ≤ℤ x.series.low

abbrev pub ReachedBy : {A : Type 0} → ℤ → ℤ → Row A → Type 0
ReachedBy n k x = n ≤ℤ (x.series.low +ℤ k)

pub record IsOrder {A : Type 0} (n : ℤ) (rows : List (Row A)) (k : ℤ) : Type 0 where
  pub least : pos 0 ≤ℤ k
  pub reaches : AllByRecursion (ReachedBy n k) rows
  pub most : (low : ℤ) → AllByRecursion (StartsFrom low) rows → k ≤ℤ int_max (pos 0) (n -ℤ low)
