-- The numbers of a class from the integers, the powers and the product that were read.
--
-- fault-of-reading, fault-of-product  faults of rows, as faults of a class
-- product-row       the product less the powers
-- difference-of     the first difference from the row
-- numbers-of        the numbers
use Rattle.std.specs.Prelude.{◌≡◌, ℕ, ◌+◌, ◌≤◌, ℤ, ◌-ℤ◌, ◌*ℤ◌, unsigned_abs, List}
use Rattle.std.specs.List.{IsDistinct}
use Rattle.std.proofs.Common.{ap, arith, ◌∙◌}
use Rattle.tv_ring.specs.Whole.{wholes}
use Rattle.tv_ring.specs.Sums.{at}
use Rattle.tv_recurrence.specs.declared.fault.RowFault.{RowFault}
use Rattle.tv_recurrence.specs.declared.fault.RowFault.TheVariants.{Wide, Memory}
use Rattle.tv_recurrence.specs.declared.part.Power.{Power}
use Rattle.tv_recurrence.specs.Products.{power_by, same_step}
use Rattle.tv_class_integers.specs.declared.differences.Difference.{Difference}
use Rattle.tv_class_integers.specs.Rows.{IsRow, IsTooWideAt}
use Rattle.tv_class_integers.specs.Readings.{all_readings, power_sum, product_at, sign_at, size_at, IsReading}
use Rattle.tv_class_integers.specs.Differences.{AgreeBelow, IsFirstDifference}
use Rattle.tv_class_integers.proofs.Readings.{power_sum-size}
use Rattle.tv_class_parts.specs.Numbers.{IsNumbers, of_row, IsNumbersFault}

module _ (base end n : ℕ) (S R : ℕ → ℤ) where
  abbrev all : List ℤ
  all = all_readings base S R

  abbrev P : ℕ → ℤ
  P = product_at base R all

  pub fault-of-reading : (fault : RowFault) → IsTooWideAt n (size_at base S R all) fault →
      IsNumbersFault base end n S R (of_row fault)
  fault-of-reading (Wide t) wide = wide
  fault-of-reading Memory wide = tt

  pub fault-of-product : (powers : List ℤ) → IsRow n (power_sum base all) powers → (fault : RowFault) →
      IsTooWideAt n (λ t. unsigned_abs (R t) + unsigned_abs (at wholes powers t)) fault →
      IsNumbersFault base end n S R (of_row fault)
  fault-of-product powers row (Wide t) wide =
      let within = wide.0 in
      let small = power_sum-size base all t in
      (within, omega (arith, wide.1, ap unsigned_abs (row.each t within)))
  fault-of-product powers row Memory wide = tt

  pub product-row : (powers row : List ℤ) → IsRow n (power_sum base all) powers →
      IsRow n (λ t. R t -ℤ at wholes powers t) row → IsRow n P row
  product-row powers row gathered was = record {
    count = was.count;
    each = λ t h. was.each t h ∙ ap (λ z. R t -ℤ z) (gathered.each t h);
  }

  pub agree-of : (row : List ℤ) → IsRow n P row → (m : ℕ) → m ≤ n → AgreeBelow base S (at wholes row) m → AgreeBelow base S P m
  agree-of row was m h agree t l = agree t l ∙ ap (λ z. sign_at base t *ℤ z) (was.each t (omega arith))

  pub difference-of : (row : List ℤ) → IsRow n P row → end ≤ n → (d : Difference) →
      IsFirstDifference base S (at wholes row) end d →
      IsFirstDifference base S P end d
  difference-of row was h d first =
      let within = first.within in
      record {
        within = within;
        before = agree-of row was d.weight (omega arith) first.before;
        series = first.series;
        product = first.product ∙ ap (λ z. sign_at base d.weight *ℤ z) (was.each d.weight (omega arith));
        differ = first.differ;
      }

  pub numbers-of : (values powers row : List ℤ) (list : List Power) → IsReading base n S R values powers → IsRow n P row →
      end ≤ n →
      AgreeBelow base S (at wholes row) end → ((s : ℕ) → power_by list s ≡ at wholes powers s) → IsDistinct same_step list →
      IsNumbers base end n S R values row list
  numbers-of values powers row list reading was h agree same once = record {
    all = reading.read;
    product = was;
    gathered = λ s l. same s ∙ reading.gathered.each s l;
    once = once;
    agree = agree-of row was end h agree;
  }
