-- How a closed list is made: degree by degree, with the sums of two classes that have that degree.
--
-- IsClosedTo D f d vs    == classes of degree 1 to D, in order, with those of the family and, with any two of them, their sum
--                           where its degree is at most d
-- IsNextOf D f d vs more == `more` has the classes of vs and each sum of two of them that has the degree d + 1, and no others but
--                           of that degree; in order
-- closed_first, closed_next, closed_whole  before the degree 2, after one more degree, and after D
use Rattle.std.proofs.Common.{◌≡◌, ◌⊎◌, inl, inr, Contains, ℕ, suc, ◌≤◌, ℤ, pos, ◌≤ℤ◌, ◌<ℤ◌, List, arith}
use Rattle.std.proofs.lemmas.Int.{ints, by_lt_z}
use Rattle.std.specs.List.{AllByRecursion}
use Rattle.tv_lemmas.proofs.Members.{all-contains}
use Rattle.tv_spec_plane.specs.Web.{degree_of}
use Rattle.tv_spec_boxes.specs.Assignments.{plus}
use Rattle.tv_spec_boxes.specs.Classes.{ClassesRise}
use Rattle.tv_spec_series.specs.Families.{Family, classes}
use Rattle.tv_laws_counts.proofs.Degrees.{degree_of-plus}
use Rattle.tv_laws_integers.specs.Closed.{IsClassTo, IsClosedList}

pub record IsClosedTo (D : ℕ) (f : Family ℤ) (d : ℕ) (vs : List (List ℤ)) : Type 0 where
  pub each : AllByRecursion (IsClassTo D f.heights) vs
  pub rises : ClassesRise f.heights vs
  pub sums : (u v : List ℤ) → Contains vs u → Contains vs v → degree_of f.heights (plus u v) ≤ℤ pos d → Contains vs (plus u v)
  pub whole : (v : List ℤ) → Contains (classes f.rows) v → IsClassTo D f.heights v → Contains vs v

pub record IsNextOf (D : ℕ) (f : Family ℤ) (d : ℕ) (vs more : List (List ℤ)) : Type 0 where
  pub each : AllByRecursion (IsClassTo D f.heights) more
  pub rises : ClassesRise f.heights more
  pub kept : (v : List ℤ) → Contains vs v → Contains more v
  pub sums : (u v : List ℤ) → Contains vs u → Contains vs v → degree_of f.heights (plus u v) ≡ pos (suc d)
      → Contains more (plus u v)
  pub others : (v : List ℤ) → Contains more v → Contains vs v ⊎ (degree_of f.heights v ≡ pos (suc d))

module _ (D : ℕ) (f : Family ℤ) where
  listed_degree : (vs : List (List ℤ)) → AllByRecursion (IsClassTo D f.heights) vs → (v : List ℤ) → Contains vs v
      → pos 0 <ℤ degree_of f.heights v
  listed_degree vs each v there = (all-contains (IsClassTo D f.heights) vs v each there).positive.degree

  -- a sum of two classes has a degree of at least 2
  pub closed_first : (vs : List (List ℤ)) → AllByRecursion (IsClassTo D f.heights) vs → ClassesRise f.heights vs
      → ((v : List ℤ) → Contains (classes f.rows) v → IsClassTo D f.heights v → Contains vs v) → IsClosedTo D f 1 vs
  closed_first vs each rises whole = record {
    each = each;
    rises = rises;
    sums = λ u v first second low.
        let one = listed_degree vs each u first in
        let other = listed_degree vs each v second in
        let sum = degree_of-plus f.heights u v in
        absurd (omega (arith, ints));
    whole = whole;
  }

  module _ (d : ℕ) (vs more : List (List ℤ)) (closed : IsClosedTo D f d vs) (next : IsNextOf D f d vs more) where
    sum_of_old : (u v : List ℤ) → Contains vs u → Contains vs v → degree_of f.heights (plus u v) ≤ℤ pos (suc d)
        → Contains more (plus u v)
    sum_of_old u v first second low = by_lt_z (degree_of f.heights (plus u v)) (pos (suc d))
        (λ less. next.kept (plus u v) (closed.sums u v first second (omega (arith, ints))))
        (λ least. next.sums u v first second (omega (arith, ints)))

    -- what was added has too high a degree for a further sum
    sum_of : (u v : List ℤ) → Contains more u → Contains more v → degree_of f.heights (plus u v) ≤ℤ pos (suc d)
        → Contains vs u ⊎ (degree_of f.heights u ≡ pos (suc d)) → Contains vs v ⊎ (degree_of f.heights v ≡ pos (suc d))
        → Contains more (plus u v)
    sum_of u v first second low (inl one) (inl other) = sum_of_old u v one other low
    sum_of u v first second low (inr high) _ =
        let other = listed_degree more next.each v second in let sum = degree_of-plus f.heights u v in absurd (omega (arith, ints))
    sum_of u v first second low (inl one) (inr high) =
        let positive = listed_degree more next.each u first in let sum = degree_of-plus f.heights u v in absurd (omega (arith, ints))

    pub closed_next : IsClosedTo D f (suc d) more
    closed_next = record {
      each = next.each;
      rises = next.rises;
      sums = λ u v first second low. sum_of u v first second low (next.others u first) (next.others v second);
      whole = λ v there class. next.kept v (closed.whole v there class);
    }

  pub closed_whole : (d : ℕ) (vs : List (List ℤ)) → D ≤ d → IsClosedTo D f d vs → IsClosedList D f vs
  closed_whole d vs enough closed = record {
    each = closed.each;
    rises = closed.rises;
    sums = λ u v first second low. closed.sums u v first second (omega (arith, ints));
    whole = closed.whole;
  }
