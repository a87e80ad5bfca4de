-- The candidates of a normalized family are a closed list: the sums of its classes of degree at least 1.
--
-- IsSumOf f v     == v is a sum of one or more of these classes
-- IsFound D f v   == v is a sum of them and has a degree from 1 to D
use Rattle.std.proofs.Common.{◌≡◌, ◌⊎◌, inl, inr, Contains, ℕ, zero, suc, ◌+◌, ◌≤◌, ℤ, pos, ◌≤ℤ◌, ◌<ℤ◌, int_le, int_lt, Bool, true, List, length, ◌∙◌, ap, arith}
use Rattle.std.specs.Prelude.{filter}
use Rattle.std.proofs.lemmas.Int.{ints}
use Rattle.std.proofs.lemmas.Bool.{and_parts}
use Rattle.std.specs.List.{AllByRecursion, range_with_len}
use Rattle.tv_lemmas.proofs.Members.{all-onto, all-both, all-flat_map, all-filter, all-contains, all-members, contains-filter, contains-flat_map, contains-range}
use Rattle.tv_spec_plane.specs.Web.{degree_of}
use Rattle.tv_spec_boxes.specs.Assignments.{zeros, plus}
use Rattle.tv_spec_boxes.specs.Classes.{ClassesRise}
use Rattle.tv_spec_boxes.proofs.OneCornerCrowd.{degree_zero}
use Rattle.tv_spec_series.specs.Families.{Family, classes}
use Rattle.tv_spec_series.proofs.Order.{int_lt-true, int_lt_tells}
use Rattle.tv_spec_katz.specs.Integers.{positive_classes, sums, is_within, all_sums, candidates}
use Rattle.tv_spec_katz.specs.Relations.{IsPositiveClass, IsNormalized}
use Rattle.tv_laws_integers.specs.Closed.{IsClassTo, IsClosedList}
use Rattle.tv_laws_integers.proofs.Sorted.{all_sorted, contains_sorted, sorted_rises}
use Rattle.tv_laws_integers.proofs.SumsOfClasses.{IsSum, sums_are, sum_is, sum_of_one, sums_add}
use Rattle.tv_lemmas.proofs.Tests.{most_tells, most-true}

-- ---- the test of a degree

pub within_tells : (D : ℕ) (hs v : List ℤ) → is_within D hs v ≡ true → (pos 0 <ℤ degree_of hs v) × (degree_of hs v ≤ℤ pos D)
within_tells D hs v b =
    let parts = and_parts (int_lt (pos 0) (degree_of hs v)) (int_le (degree_of hs v) (pos D)) b in
    (int_lt_tells (pos 0) (degree_of hs v) parts.0, most_tells (degree_of hs v) (pos D) parts.1)

pub within-true : (D : ℕ) (hs v : List ℤ) → pos 0 <ℤ degree_of hs v → degree_of hs v ≤ℤ pos D → is_within D hs v ≡ true
within-true D hs v up most =
    let first = int_lt-true (pos 0) (degree_of hs v) up in
    rw first (most-true (degree_of hs v) (pos D) most)

-- ---- the classes that are summed

abbrev HasPositive : Family ℤ → List ℤ → Type 0
HasPositive f v = (v ≡ zeros (length f.heights)) ⊎ IsPositiveClass f.heights v

abbrev is_positive : Family ℤ → List ℤ → Bool
is_positive f v = int_lt (pos 0) (degree_of f.heights v)

-- class zero has no degree of at least 1
pub positive_one : (f : Family ℤ) (v : List ℤ) → HasPositive f v → is_positive f v ≡ true → IsPositiveClass f.heights v
positive_one f v (inl none) b =
    let e = ap (degree_of f.heights) none ∙ degree_zero f.heights (length f.heights) in
    let up = int_lt_tells (pos 0) (degree_of f.heights v) b in
    absurd (omega (arith, ints))
positive_one f v (inr positive) b = positive

record IsSumOf (f : Family ℤ) (v : List ℤ) : Type 0 where
  entries : length v ≡ length f.heights
  count : ℕ
  least : 1 ≤ count
  there : Contains (sums count (positive_classes f) f.heights) v

record IsFound (D : ℕ) (f : Family ℤ) (v : List ℤ) : Type 0 where
  class : IsClassTo D f.heights v
  sum : IsSumOf f v

module _ (D : ℕ) (N : ℤ) (f : Family ℤ) (normal : IsNormalized N f) where
  positive_each : AllByRecursion (IsPositiveClass f.heights) (positive_classes f)
  positive_each = all-filter (HasPositive f) (IsPositiveClass f.heights) (is_positive f) (positive_one f) (classes f.rows)
      normal.others

  -- ---- all sums

  sums_of : (n : ℕ) → 1 ≤ n → AllByRecursion (IsSumOf f) (sums n (positive_classes f) f.heights)
  sums_of n up = all-both (IsSum n f.heights) (Contains (sums n (positive_classes f) f.heights)) (IsSumOf f)
      (λ v is there. record { entries = is.entries; count = n; least = up; there = there })
      (sums n (positive_classes f) f.heights) (sums_are f.heights (positive_classes f) positive_each n) (all-members _)

  all_sums_of : AllByRecursion (IsSumOf f) (all_sums D f)
  all_sums_of = all-flat_map (λ n. 1 ≤ n) (IsSumOf f) (λ n. sums n (positive_classes f) f.heights) sums_of (range_with_len 1 D)
      (from_one 1 D (omega arith))
    where
      from_one : (k n : ℕ) → 1 ≤ k → AllByRecursion (λ i. 1 ≤ i) (range_with_len k n)
      from_one k zero h = tt
      from_one k (suc n) h = (h, from_one (k + 1) n (omega arith))

  -- ---- those of degree at most D

  found_one : (v : List ℤ) → IsSumOf f v → is_within D f.heights v ≡ true → IsFound D f v
  found_one v is b =
      let degree = within_tells D f.heights v b in
      record { class = record { positive = record { entries = is.entries; degree = degree.0 }; within = degree.1 }; sum = is }

  within_are : AllByRecursion (IsFound D f) (filter (is_within D f.heights) (all_sums D f))
  within_are = all-filter (IsSumOf f) (IsFound D f) (is_within D f.heights) found_one (all_sums D f) all_sums_of

  candidates_are : AllByRecursion (IsFound D f) (candidates D f)
  unfolding candidates
  candidates_are = all_sorted f.heights (IsFound D f) (filter (is_within D f.heights) (all_sums D f)) within_are

  rises : ClassesRise f.heights (candidates D f)
  unfolding candidates
  rises = sorted_rises f.heights (length f.heights) (filter (is_within D f.heights) (all_sums D f))
      (all-onto (IsFound D f) (λ v. length v ≡ length f.heights) (λ v is. is.sum.entries)
      (filter (is_within D f.heights) (all_sums D f)) within_are)

  candidate : (v : List ℤ) → Contains (candidates D f) v → IsFound D f v
  candidate v there = all-contains (IsFound D f) (candidates D f) v candidates_are there

  -- a sum of classes that has a degree of at most D is one of them
  has_sum : (n : ℕ) (v : List ℤ) → 1 ≤ n → Contains (sums n (positive_classes f) f.heights) v → degree_of f.heights v ≤ℤ pos D
      → Contains (candidates D f) v
  unfolding candidates
  has_sum n v up there most =
      let least = (sum_is f.heights (positive_classes f) positive_each n v there).degree in
      let among = contains-flat_map (λ k. sums k (positive_classes f) f.heights) n v (range_with_len 1 D)
      (contains-range 1 D n up (omega (arith, ints))) there in
      let passes = within-true D f.heights v (omega (arith, ints)) most in
      contains_sorted f.heights v (filter (is_within D f.heights) (all_sums D f))
      (contains-filter (is_within D f.heights) v (all_sums D f) among passes)

  has_plus : (u v : List ℤ) → Contains (candidates D f) u → Contains (candidates D f) v → degree_of f.heights (plus u v) ≤ℤ pos D
      → Contains (candidates D f) (plus u v)
  has_plus u v first second most =
      let one = (candidate u first).sum in
      let other = (candidate v second).sum in
      let up = one.least in
      has_sum (one.count + other.count) (plus u v) (omega arith)
      (sums_add f.heights (positive_classes f) positive_each other.count one.count u v one.there other.there) most

  has_class : (v : List ℤ) → Contains (classes f.rows) v → IsClassTo D f.heights v → Contains (candidates D f) v
  has_class v there class =
      let passes = int_lt-true (pos 0) (degree_of f.heights v) class.positive.degree in
      let listed = contains-filter (is_positive f) v (classes f.rows) there passes in
      has_sum 1 v (omega arith) (sum_of_one f.heights (positive_classes f) positive_each v listed) class.within

  pub candidates_closed : IsClosedList D f (candidates D f)
  candidates_closed = record {
    each = all-onto (IsFound D f) (IsClassTo D f.heights) (λ v is. is.class) (candidates D f) candidates_are;
    rises = rises;
    sums = has_plus;
    whole = has_class;
  }
