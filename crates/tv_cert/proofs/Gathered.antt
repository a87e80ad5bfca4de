-- The powers of a class's integers, added one integer after the other.
--
-- IsGathered base gs n i row == the row has n numbers, at each weight the powers of the first i integers: with what the others add it
--                      is the sum, and sizes likewise
-- gathered-none, gathered-more, gathered-all  no integer yet, one more, and all
-- gathered-wide     a power that is too wide
use Rattle.std.specs.Prelude.{◌≡◌, ℕ, suc, ◌+◌, ◌-◌, ◌<◌, ◌≤◌, ℤ, pos, ◌+ℤ◌, unsigned_abs, List, ◌∷◌, length}
use Rattle.std.proofs.Common.{sym, ap, arith, ◌∙◌, drop, get_or}
use Rattle.std.proofs.Math.Seq.{drop-cons}
use Rattle.std.proofs.lemmas.List.{drop_all}
use Rattle.std.proofs.lemmas.Int.{ints}
use Rattle.tv_ring.specs.Whole.{wholes}
use Rattle.tv_ring.specs.Sums.{at}
use Rattle.tv_integers.specs.declared.genus_value.GenusValue.{GenusValue}
use Rattle.tv_recurrence.specs.declared.fault.RowFault.{RowFault}
use Rattle.tv_recurrence.specs.declared.fault.RowFault.TheVariants.{Wide, Memory}
use Rattle.tv_class_integers.specs.Powers.{added}
use Rattle.tv_class_integers.specs.Rows.{IsRow, IsTooWideAt}
use Rattle.tv_cert.specs.Powers.{value_power, values_sum, values_size}

pub record IsGathered (base : ℕ) (gs : List GenusValue) (n i : ℕ) (row : List ℤ) : Type 0 where
  pub count : length row ≡ n
  pub sum : (t : ℕ) → t < n → (at wholes row t +ℤ values_sum base (drop i gs) t) ≡ values_sum base gs t
  pub size : (t : ℕ) → t < n → unsigned_abs (at wholes row t) + values_size base (drop i gs) t ≤ values_size base gs t

module _ (base : ℕ) (gs : List GenusValue) (n : ℕ) where
  pub gathered-none : (row : List ℤ) → IsRow n (λ t. pos 0) row → IsGathered base gs n 0 row
  gathered-none row none = record {
    count = none.count;
    sum = λ t h. rw (none.each t h) (omega (arith, ints));
    size = λ t h. rw (none.each t h) (omega arith);
  }

  module _ (i : ℕ) (row : List ℤ) (was : IsGathered base gs n i row) (g : GenusValue) (read : g ≡ get_or gs i g)
      (within : i < length gs) where
    left : drop i gs ≡ g ∷ drop (i + 1) gs
    left =
        let one : i + 1 ≡ suc i = omega arith in
        rw one (drop-cons gs i g within ∙ ap (λ y. y ∷ drop (suc i) gs) (sym read))

    pub gathered-more : (next : List ℤ) →
        IsRow (length row) (λ t. at wholes row t +ℤ added ((base + 1) - g.genus) g.genus g.value t) next →
        IsGathered base gs n (i + 1) next
    gathered-more next more = record {
      count = more.count ∙ was.count;
      sum = λ t h.
          let here = more.each t (omega (arith, was.count)) in
          let before = was.sum t h in
          let split : values_sum base (drop i gs) t ≡ value_power base g t +ℤ values_sum base (drop (i + 1) gs) t =
          ap (λ ks. values_sum base ks t) left in
          omega (arith, ints);
      size = λ t h.
          let here = more.each t (omega (arith, was.count)) in
          let before = was.size t h in
          let split : values_size base (drop i gs) t ≡ unsigned_abs (value_power base g t) + values_size base (drop (i + 1) gs) t =
          ap (λ ks. values_size base ks t) left in
          let least = size-sum (at wholes row t) (value_power base g t) in
          rw here (omega (arith, split, before, least));
    }
      where
        size-sum : (a b : ℤ) → unsigned_abs (a +ℤ b) ≤ unsigned_abs a + unsigned_abs b
        size-sum a b = omega (arith, ints)

    pub gathered-wide : (fault : RowFault) →
        IsTooWideAt (length row) (λ t. unsigned_abs (at wholes row t) + unsigned_abs (added ((base + 1) - g.genus) g.genus g.value t))
        fault → IsTooWideAt n (values_size base gs) fault
    gathered-wide (Wide t) wide =
        let h : t < n = omega (arith, wide.0, was.count) in
        let before = was.size t h in
        let split : values_size base (drop i gs) t ≡ unsigned_abs (value_power base g t) + values_size base (drop (i + 1) gs) t =
        ap (λ ks. values_size base ks t) left in
        (h, omega (arith, wide.1, before, split))
    gathered-wide Memory wide = tt

  pub gathered-all : (i : ℕ) (row : List ℤ) → length gs ≤ i → IsGathered base gs n i row → IsRow n (values_sum base gs) row
  gathered-all i row past was = record {
    count = was.count;
    each = λ t h.
        let all = was.sum t h in
        let none : values_sum base (drop i gs) t ≡ pos 0 = ap (λ ks. values_sum base ks t) (drop_all i gs past) in
        omega (arith, ints);
  }
