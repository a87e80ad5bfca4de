-- What the integers of a family of series are, however they are found.
--
-- IsPositiveClass hs v  == the class has an entry for each height and a degree of at least 1
-- IsNormalized N f      == the series of class zero is 1 through N, and every other class of the family is positive, as in a
--                          family of reduced series
-- ComesLater hs i j     == the class of i comes after that of j, or it is the same class and i has the lesser genus
-- IsInteger D hs i      == its class is positive and of degree at most D, and its value is not 0
-- AreOrdered D hs is    == each is such an integer and comes later than all that follow it: the last one is the first of the
--                          list, and no two have one class and genus
-- AreIntegers D f is    == the integers of the family to degree D: so ordered, and Katz's product over them and the family have
--                          one value at every class of degree at most D, also 0 or below, at every exponent at most 1
-- HasMismatch D N f v n == at v and n Katz's product over the integers of the family differs from the family: at no earlier
--                          class of degree at most D through N, and at no lesser exponent of v
use Rattle.std.specs.Prelude.{◌≡◌, ◌≢◌, ◌⊎◌, ⊤, ℕ, ◌<◌, ℤ, pos, ◌≤ℤ◌, ◌<ℤ◌, List, [], ◌∷◌, length}
use Rattle.std.specs.List.{AllByRecursion}
use Rattle.tv_ring.specs.Whole.{wholes}
use Rattle.tv_spec_plane.specs.Web.{degree_of}
use Rattle.tv_spec_boxes.specs.Assignments.{zeros}
use Rattle.tv_spec_boxes.specs.Classes.{IsBefore}
use Rattle.tv_spec_series.specs.Families.{Family, classes, coefficient_of}
use Rattle.tv_spec_katz.specs.Katz.{Integer}
use Rattle.tv_spec_katz.specs.Integers.{Agrees, IsCompared, IsMismatch}

pub record IsPositiveClass (hs v : List ℤ) : Type 0 where
  pub entries : length v ≡ length hs
  pub degree : pos 0 <ℤ degree_of hs v

pub record IsNormalized (N : ℤ) (f : Family ℤ) : Type 0 where
  pub unit : coefficient_of wholes f (zeros (length f.heights)) (pos 0) ≡ pos 1
  pub none : (n : ℤ) → n ≤ℤ N → n ≢ pos 0 → coefficient_of wholes f (zeros (length f.heights)) n ≡ pos 0
  pub others : AllByRecursion (λ v. (v ≡ zeros (length f.heights)) ⊎ IsPositiveClass f.heights v) (classes f.rows)

abbrev pub ComesLater : List ℤ → Integer → Integer → Type 0
ComesLater hs i j = IsBefore hs j.class i.class ⊎ ((i.class ≡ j.class) × (i.genus < j.genus))

pub record IsInteger (D : ℕ) (hs : List ℤ) (i : Integer) : Type 0 where
  pub positive : IsPositiveClass hs i.class
  pub within : degree_of hs i.class ≤ℤ pos D
  pub value : i.value ≢ pos 0

abbrev pub AreOrdered : ℕ → List ℤ → List Integer → Type 0
AreOrdered D hs [] = ⊤
AreOrdered D hs (i ∷ is) = IsInteger D hs i × (AllByRecursion (ComesLater hs i) is × AreOrdered D hs is)

pub record AreIntegers (D : ℕ) (f : Family ℤ) (is : List Integer) : Type 0 where
  pub ordered : AreOrdered D f.heights is
  pub agrees : (v : List ℤ) (n : ℤ) → IsCompared D (pos 1) f v n → Agrees f is v n

pub record HasMismatch (D : ℕ) (N : ℤ) (f : Family ℤ) (v : List ℤ) (n : ℤ) : Type 0 where
  pub integers : List Integer
  pub are : AreIntegers D f integers
  pub mismatch : IsMismatch D N f integers v n
