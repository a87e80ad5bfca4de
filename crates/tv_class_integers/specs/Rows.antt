-- Rows of numbers, entry by entry, and what went wrong at an entry.
--
-- pair_sums x row    == each entry with the one before it added; before the first stands x
-- IsRow n f row      == the row has n entries, f t at t
-- IsTooWideAt n size fault == where the fault is Wide, it names an entry below n with a size over the limit
use Rattle.std.specs.Prelude.{◌≡◌, ℕ, ◌<◌, ℤ, ◌+ℤ◌, List, [], ◌∷◌, length}
use Rattle.tv_ring.specs.Operations.{limit}
use Rattle.tv_ring.specs.Whole.{wholes}
use Rattle.tv_ring.specs.Sums.{at}
use Rattle.tv_recurrence.specs.declared.fault.RowFault.{RowFault}
use Rattle.tv_recurrence.specs.declared.fault.RowFault.TheVariants.{Wide, Memory}

abbrev pub pair_sums : ℤ → List ℤ → List ℤ
pair_sums x [] = []
pair_sums x (y ∷ row) = (x +ℤ y) ∷ pair_sums y row

pub record IsRow (n : ℕ) (f : ℕ → ℤ) (row : List ℤ) : Type 0 where
  pub count : length row ≡ n
  pub each : (t : ℕ) → t < n → at wholes row t ≡ f t

abbrev pub IsTooWideAt : ℕ → (ℕ → ℕ) → RowFault → Type 0
IsTooWideAt n size (Wide t) = (t < n) × (limit < size t)
IsTooWideAt n size Memory = Unit {0}
