-- Families into which some numbers were added, each into its class.
--
-- Addend              == a class, and a whole number at each exponent
-- added_up front v i  == the sum, over the addends of class v, of their numbers at i
-- StartsAt low row    == the series of the row starts at low or above
-- Holds IsValue r hs top n low P front f == the family f has the heights hs, the degrees go to top and the exponents to n; each of
--                        its classes has P, and it has the class of each addend; its series start at low or above, and its
--                        coefficients through n are these sums, times one
use Rattle.std.specs.Prelude.{◌≡◌, Contains, ℤ, pos, ◌+ℤ◌, ◌≤ℤ◌, List, [], ◌∷◌, cond}
use Rattle.std.specs.List.{AllByRecursion}
use Rattle.tv_ring.specs.Operations.{Operations}
use Rattle.tv_ring.specs.Sums.{whole_times}
use Rattle.tv_spec_boxes.specs.Assignments.{same_vector}
use Rattle.tv_spec_series.specs.Families.{Row, Family, classes, coefficient_of, IsFamily}

pub record Addend : Type 0 where
  pub class : List ℤ
  pub number : ℤ → ℤ

unfoldable pub added_up : List Addend → List ℤ → ℤ → ℤ
added_up [] v i = pos 0
added_up (a ∷ front) v i = cond (same_vector a.class v) (a.number i) (pos 0) +ℤ added_up front v i

abbrev pub StartsAt : {A : Type 0} → ℤ → Row A → Type 0
StartsAt low row = low ≤ℤ row.series.low

pub record Holds {A : Type 0} (IsValue : A → Type 0) (r : Operations A) (hs : List ℤ) (greatest last least : ℤ) (P : List ℤ → Type 0) (front : List Addend) (f : Family A) : Type 0 where
  pub heights : f.heights ≡ hs
  pub top : f.top ≡ greatest
  pub upto : f.upto ≡ last
  pub family : IsFamily IsValue r f
  pub each : AllByRecursion P (classes f.rows)
  pub whole : AllByRecursion (λ (a : Addend). Contains (classes f.rows) a.class) front
  pub low : AllByRecursion (StartsAt least) f.rows
  pub numbers : (v : List ℤ) (i : ℤ) → i ≤ℤ last → coefficient_of r f v i ≡ whole_times r (added_up front v i)
