-- The next class is read as the integers of a family are.
--
-- weight-sign       the sign of a weight is that of its exponent
-- next-integer      the number that is read is the integer of its genus
-- read-to           after some numbers the genera are read from the greatest one down
-- class-read        after all of them the class is read
-- class_is_read, classes_keep, product_is_read, class_agrees, difference_is_first  the laws
use Rattle.std.specs.Prelude.{◌≡◌, ◌⊎◌, ℕ, zero, suc, ◌+◌, ◌-◌, ◌≤◌, ◌%◌, ℤ, pos, negsuc, ◌+ℤ◌, ◌-ℤ◌, ◌*ℤ◌, ◌<ℤ◌, unsigned_abs, List, [], ◌∷◌, ◌++◌}
use Rattle.std.specs.List.{AllByRecursion}
use Rattle.std.proofs.Common.{refl, sym, ap, arith, ◌∙◌, inl, inr}
use Rattle.std.proofs.lemmas.Int.{ints}
use Rattle.tv_lemmas.proofs.Members.{all-onto, all-contains}
use Rattle.tv_ring.specs.Whole.{wholes}
use Rattle.tv_spec_plane.specs.Web.{degree_of}
use Rattle.tv_spec_boxes.specs.Classes.{IsBefore}
use Rattle.tv_spec_series.specs.Families.{Family, coefficient_of}
use Rattle.tv_spec_katz.specs.Binomials.{power_sign}
use Rattle.tv_spec_katz.specs.Katz.{Integer, katz}
use Rattle.tv_spec_katz.specs.Integers.{Agrees, read_genus, new_integer, with_integer}
use Rattle.tv_laws_katz.specs.Weights.{IsWithinSlope}
use Rattle.tv_laws_katz.proofs.LargerBound.{vanishes_by_slope}
use Rattle.tv_laws_katz.proofs.Powers.{power_sign-same, power_sign-square, twice_signed}
use Rattle.tv_laws_integers.specs.Closed.{IsListed}
use Rattle.tv_laws_integers.specs.Reading.{IsBegun}
use Rattle.tv_laws_integers.proofs.Classes.{IsReadOf}
use Rattle.tv_laws_integers.proofs.Steps.{IsReadTo, read_none, read_next, read_whole, begun_next, begun_within}
use Rattle.tv_recurrence.specs.KatzParts.{katz_by_weight}
use Rattle.tv_recurrence.specs.Products.{exponent_at}
use Rattle.tv_class_integers.specs.Readings.{genus_at, readings, next_value, product_at, sign_at}
use Rattle.tv_class_integers.specs.ClassIntegers.{onto, IsAtBase}
use Rattle.tv_class_integers.specs.Differences.{AgreeBelow}
use Rattle.tv_class_integers.specs.NextClasses.{series_by_weight, read_onto, product_after, IsNextClass, ClassIsRead, ClassesKeep, ProductIsRead, ClassAgrees, DifferenceIsFirst}
use Rattle.tv_class_integers.proofs.Readings.{length-readings}
use Rattle.tv_class_integers.proofs.FirstOrder.{first_order_sum, slope-onto}

size-sum : (a b : ℕ) → unsigned_abs (pos a -ℤ pos b) % 2 ≡ (a + b) % 2
size-sum a b = omega (arith, ints)

split : (z : ℤ) → (z <ℤ pos 0) ⊎ ((t : ℕ) × (z ≡ pos t))
split (pos t) = inr (t, refl)
split (negsuc t) = inl (omega (arith, ints))

module _ (D : ℕ) (f : Family ℤ) (w : ℕ) (read : List (List ℤ)) (is : List Integer) (v : List ℤ) (base : ℕ)
    (next : IsNextClass D f w read is v base) where
  abbrev S : ℕ → ℤ
  S = series_by_weight f w v

  abbrev R : ℕ → ℤ
  R = katz_by_weight f.heights w is v

  abbrev numbers : ℕ → List ℤ
  numbers n = readings base S R n

  abbrev so_far : ℕ → List Integer
  so_far n = onto v base (numbers n) is

  pub at-base : IsAtBase f.heights w v base
  at-base = let up = next.class.positive.degree in record { degree = omega (arith, ints); place = next.place }

  pub slopes : AllByRecursion (IsWithinSlope f.heights w) is
  slopes = begun_within D f w read is next.begins next.begun

  exponent-is : (t : ℕ) → exponent_at f.heights w v t ≡ pos t -ℤ pos base
  exponent-is t = let place = next.place in omega (arith, ints)

  sign-is : (t : ℕ) → power_sign (unsigned_abs (exponent_at f.heights w v t)) ≡ sign_at base t
  sign-is t = power_sign-same (unsigned_abs (exponent_at f.heights w v t)) (t + base)
      (ap (λ e. unsigned_abs e % 2) (exponent-is t) ∙ size-sum t base)

  -- by weight and back
  pub from-weight : (js : List Integer) (t : ℕ) →
      sign_at base t *ℤ katz_by_weight f.heights w js v t ≡ katz f.heights js v (exponent_at f.heights w v t)
  from-weight js t =
      let K = katz f.heights js v (exponent_at f.heights w v t) in
      ap (λ s. sign_at base t *ℤ (s *ℤ K)) (sign-is t) ∙ twice_signed (sign_at base t) K (power_sign-square (t + base))

  next-integer : (n : ℕ) → n ≤ base + 1 →
      next_value base S R (numbers n) ≡ new_integer f v (genus_at base n) (so_far n)
  next-integer n h =
      let count = length-readings base S R n in
      let e : exponent_at f.heights w v n ≡ pos 1 -ℤ pos (genus_at base n) = exponent-is n ∙ omega (arith, ints) in
      let product = sym (first_order_sum f.heights w v base is (numbers n) n at-base slopes (omega arith)) in
      ap (λ s. S s -ℤ (sign_at base s *ℤ product_at base R (numbers n) s)) count ∙
      (ap (λ z. S n -ℤ (sign_at base n *ℤ z)) product ∙
      (ap (λ z. S n -ℤ z) (from-weight (so_far n) n) ∙
      ap (λ m. coefficient_of wholes f v m -ℤ katz f.heights (so_far n) v m) e))

  before : AllByRecursion (λ i. IsBefore f.heights i.class v) is
  before = all-onto (IsListed read) (λ i. IsBefore f.heights i.class v)
      (λ i there. all-contains (λ u. IsBefore f.heights u v) read i.class next.after there) is next.begun.listed

  one-more : (n : ℕ) → n ≤ base + 1 → so_far (suc n) ≡ read_genus f v (genus_at base n) (so_far n)
  unfolding readings
  one-more n h =
      let count = length-readings base S R n in
      ap (λ s. with_integer v (genus_at base s) (next_value base S R (numbers n)) (so_far n)) count ∙
      ap (λ x. with_integer v (genus_at base n) x (so_far n)) (next-integer n h)

  nothing : so_far 0 ≡ is
  unfolding readings
  nothing = refl

  read-to : (n : ℕ) → n ≤ base + 2 → IsReadTo D f v (base + 1) ((base + 2) - n) is (so_far n)
  read-to zero h =
      let left : (base + 2) - 0 ≡ suc (base + 1) = omega arith in
      rw (left, nothing) (read_none D f v next.class is (base + 1) next.begun.ordered before)
  read-to (suc n) h =
      let g = genus_at base n in
      let left : (base + 2) - suc n ≡ g = omega arith in
      let was : (base + 2) - n ≡ suc g = omega arith in
      let so = rw was at (read-to n (omega arith)) in
      rw (left, one-more n (omega arith)) (read_next D f v next.class is (base + 1) g (so_far n) (omega arith) so)

  abbrev all : List Integer
  all = read_onto f w base is v

  whole : IsReadTo D f v (base + 1) 0 is all
  whole = let none : (base + 2) - (base + 2) ≡ 0 = omega arith in rw none at (read-to (base + 2) (omega arith))

  pub class-read : IsReadOf D f v is all
  class-read = let place = next.place in
      read_whole D f v next.class is w (base + 1) all next.begins slopes (omega (arith, ints)) whole

  pub begun-after : IsBegun D f (read ++ v ∷ []) all
  begun-after = begun_next D f v read is all next.after next.begun class-read whole.listed

  pub product-read : (t : ℕ) → katz_by_weight f.heights w all v t ≡ product_after f w base is v t
  product-read t =
      let count = length-readings base S R (base + 2) in
      first_order_sum f.heights w v base is (numbers (base + 2)) t at-base slopes (omega arith)

  pub slopes-after : AllByRecursion (IsWithinSlope f.heights w) all
  slopes-after = slope-onto f.heights w v base is (numbers (base + 2)) at-base slopes

  -- at a weight, and below all weights
  agrees-there : (t : ℕ) → S t ≡ sign_at base t *ℤ product_after f w base is v t → Agrees f all v (exponent_at f.heights w v t)
  agrees-there t e = sym (from-weight all t) ∙ (ap (λ z. sign_at base t *ℤ z) (product-read t) ∙ sym e)

  agrees-below : (n : ℤ) → (n +ℤ pos base) <ℤ pos 0 → Agrees f all v n
  agrees-below n low =
      let place = next.place in
      let under : (n +ℤ (pos w *ℤ degree_of f.heights v)) <ℤ pos 0 = omega (arith, ints) in
      vanishes_by_slope f.heights w all v n slopes-after under ∙ sym (next.begins v n next.class under)

  agrees-through : (end : ℕ) (n : ℤ) → AgreeBelow base S (product_after f w base is v) end → (n +ℤ pos base) <ℤ pos end →
      Agrees f all v n
  agrees-through end n agree below = elim (split (n +ℤ pos base)) [
    | inl low ↦ agrees-below n low
    | inr found ↦
        let t = found.0 in let is_t = found.1 in
        let e : exponent_at f.heights w v t ≡ n = exponent-is t ∙ omega (arith, ints) in
        let there = agrees-there t (agree t (omega (arith, ints))) in
        rw e at there
  ]

pub class_is_read : ClassIsRead
class_is_read D f w read is v base next = begun-after D f w read is v base next

pub classes_keep : ClassesKeep
classes_keep D f w read is v base next u n before = (class-read D f w read is v base next).same u n before

pub product_is_read : ProductIsRead
product_is_read D f w read is v base next t = product-read D f w read is v base next t

pub class_agrees : ClassAgrees
class_agrees D f w read is v base N end next e agree n h =
    agrees-through D f w read is v base next end n agree (omega (arith, ints))

pub difference_is_first : DifferenceIsFirst
difference_is_first D f w read is v base t next agree other =
    let place = exponent-is D f w read is v base next t in (
      (λ e. other (sym e ∙ (sym (from-weight D f w read is v base next (read_onto f w base is v) t) ∙
          ap (λ z. sign_at base t *ℤ z) (product-read D f w read is v base next t)))),
      (λ m h. agrees-through D f w read is v base next t m agree (omega (arith, ints))),
    )
