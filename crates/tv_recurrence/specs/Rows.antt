-- The coefficients of a class through a weight.
--
-- IsQuotientRow d xs n row == the row has n numbers, and at each weight t below n the degree d times the number there is the total
--                       of the parts
-- IsRowTooWide xs n fault == where the fault is Wide, it names a weight below n at which the sizes of the terms add up to more than
--                       the limit
use Rattle.std.specs.Prelude.{◌≡◌, ℕ, ◌<◌, ℤ, pos, ◌*ℤ◌, List, length}
use Rattle.tv_ring.specs.Operations.{limit}
use Rattle.tv_ring.specs.Whole.{wholes}
use Rattle.tv_ring.specs.Sums.{at}
use Rattle.tv_recurrence.specs.declared.fault.RowFault.{RowFault}
use Rattle.tv_recurrence.specs.declared.fault.RowFault.TheVariants.{Wide, Memory}
use Rattle.tv_recurrence.specs.Parts.{Addends, parts_total, parts_size}

pub record IsQuotientRow (d : ℕ) (xs : List Addends) (n : ℕ) (row : List ℤ) : Type 0 where
  pub count : length row ≡ n
  pub each : (t : ℕ) → t < n → pos d *ℤ at wholes row t ≡ parts_total t xs

abbrev pub IsRowTooWide : List Addends → ℕ → RowFault → Type 0
IsRowTooWide xs n (Wide t) = (t < n) × (limit < parts_size t xs)
IsRowTooWide xs n Memory = Unit {0}
