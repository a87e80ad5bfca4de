-- What is read off one class on numbers alone, and why not.
--
-- IsNumbers base end n S R values row powers == these are the integers of the class, the product with them through the weight n - 1, and its powers; and
--                       series and product agree below the weight end
-- of_row fault      == the same fault, of a class
-- IsNumbersFault base end n S R fault == the sizes at a weight exceed the limit, or series and product differ first at a weight
use Rattle.std.specs.Prelude.{◌≡◌, ℕ, ◌<◌, ℤ, List, reverse}
use Rattle.std.specs.List.{IsDistinct}
use Rattle.tv_ring.specs.Operations.{limit}
use Rattle.tv_recurrence.specs.declared.fault.RowFault.{RowFault}
use Rattle.tv_recurrence.specs.declared.fault.RowFault.TheVariants.{Wide as RowWide, Memory as RowMemory}
use Rattle.tv_recurrence.specs.declared.part.Power.{Power}
use Rattle.tv_recurrence.specs.Products.{power_by, same_step}
use Rattle.tv_class_integers.specs.Rows.{IsRow}
use Rattle.tv_class_integers.specs.Readings.{all_readings, power_sum, product_at, size_at}
use Rattle.tv_class_integers.specs.Differences.{AgreeBelow, IsFirstDifference}
use Rattle.tv_class_parts.specs.declared.fault.ClassFault.{ClassFault}
use Rattle.tv_class_parts.specs.declared.fault.ClassFault.TheVariants.{Wide, Differ, Memory}

pub record IsNumbers (base end n : ℕ) (S R : ℕ → ℤ) (values row : List ℤ) (powers : List Power) : Type 0 where
  pub all : values ≡ reverse (all_readings base S R)
  pub product : IsRow n (product_at base R (all_readings base S R)) row
  pub gathered : (s : ℕ) → s < n → power_by powers s ≡ power_sum base (all_readings base S R) s
  pub once : IsDistinct same_step powers
  pub agree : AgreeBelow base S (product_at base R (all_readings base S R)) end

abbrev pub of_row : RowFault → ClassFault
of_row (RowWide t) = Wide t
of_row RowMemory = Memory

abbrev pub IsNumbersFault : ℕ → ℕ → ℕ → (ℕ → ℤ) → (ℕ → ℤ) → ClassFault → Type 0
IsNumbersFault base end n S R (Wide t) = (t < n) × (limit < size_at base S R (all_readings base S R) t)
IsNumbersFault base end n S R (Differ d) = IsFirstDifference base S (product_at base R (all_readings base S R)) end d
IsNumbersFault base end n S R Memory = Unit {0}
