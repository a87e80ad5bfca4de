-- Lists of classes from which the integers of a family can be read.
--
-- IsClassTo D hs v    == the class has an entry for each height and a degree from 1 to D
-- IsClosedList D f vs == such classes, in order: with any two of them their sum, where its degree is at most D, and each class
--                        of the family that has a degree from 1 to D
-- IsListed vs i       == the class of the integer is one of the list
use Rattle.std.specs.Prelude.{Contains, ℕ, ℤ, pos, ◌≤ℤ◌, List}
use Rattle.std.specs.List.{AllByRecursion}
use Rattle.tv_spec_plane.specs.Web.{degree_of}
use Rattle.tv_spec_boxes.specs.Assignments.{plus}
use Rattle.tv_spec_boxes.specs.Classes.{ClassesRise}
use Rattle.tv_spec_series.specs.Families.{Family, classes}
use Rattle.tv_spec_katz.specs.Katz.{Integer}
use Rattle.tv_spec_katz.specs.Relations.{IsPositiveClass}

pub record IsClassTo (D : ℕ) (hs v : List ℤ) : Type 0 where
  pub positive : IsPositiveClass hs v
  pub within : degree_of hs v ≤ℤ pos D

pub record IsClosedList (D : ℕ) (f : Family ℤ) (vs : List (List ℤ)) : Type 0 where
  pub each : AllByRecursion (IsClassTo D f.heights) vs
  pub rises : ClassesRise f.heights vs
  pub sums : (u v : List ℤ) → Contains vs u → Contains vs v → degree_of f.heights (plus u v) ≤ℤ pos D → Contains vs (plus u v)
  pub whole : (v : List ℤ) → Contains (classes f.rows) v → IsClassTo D f.heights v → Contains vs v

abbrev pub IsListed : List (List ℤ) → Integer → Type 0
IsListed vs i = Contains vs i.class
