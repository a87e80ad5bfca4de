-- What is true of the integers of a family, as laws.
--
-- IntegersAre        == what is read off a normalized family class by class, over the sums of its classes, are its integers
-- IntegersOnly       == a family has at most one list of integers to a degree
-- OnlyWhereTheyBegin == two lists of integers to a degree, in order, are one where their products have one value at the places
--                       where the integers of both begin
-- IntegersListed     == the classes of the integers of a normalized family are among those of every closed list
-- GoesOn D f read back is == the integers `is` with what is then read of `back` are the integers of the family, and the product
--                       keeps its values at the classes that were read
-- IntegersGoOn       == so it is over any closed list of classes
-- AgreeEverywhere    == where the product over integers at classes of a closed list and a normalized family agree through N at
--                       each class of that list, they do at every class of degree at most D
-- SlopeOfSeries      == the greatest slope of the integers is the least c such that each series begins at - c * degree or above;
--                       so it is known before the first integer
-- ReducedNormalized  == a reduced family, through an exponent of at least 0, of a graded web with a height for each
--                       point and all open edges empty is normalized
-- ReducedClassesAddUp == with any two of its classes a reduced family of a graded web with all open edges empty has their sum,
--                       where its degree is at most d
-- IntegersAtClasses  == the integers of a reduced family, through an exponent of at least 1, of a graded web with a height for
--                       each point and all open edges empty stand at classes of the family
-- MismatchFirst      == a mismatch of a normalized family is the first place at which it differs from the product over what is
--                       read off it
-- MismatchOnly       == a family has at most one mismatch
-- NoMismatch         == it has none where the product over its integers agrees with it at all classes of degree at most D
--                       through N
-- MismatchSeen       == it is seen as soon as the classes up to its own are read
use Rattle.std.specs.Prelude.{◌≡◌, Contains, ℕ, ◌≤◌, ℤ, pos, ◌≤ℤ◌, List, ◌++◌, length}
use Rattle.std.specs.List.{AllByRecursion}
use Rattle.tv_ring.specs.Whole.{wholes}
use Rattle.tv_spec_plane.specs.Web.{Web, degree_of}
use Rattle.tv_spec_plane.specs.Graded.{IsGraded}
use Rattle.tv_spec_boxes.specs.Assignments.{no_legs, plus}
use Rattle.tv_spec_series.specs.Families.{Family, classes}
use Rattle.tv_spec_series.specs.ReducedFamilies.{IsReducedFamily}
use Rattle.tv_spec_katz.specs.Katz.{Integer, katz}
use Rattle.tv_spec_katz.specs.Integers.{Agrees, IsCompared, IsMismatch, integers, read_classes}
use Rattle.tv_spec_katz.specs.Majorant.{greatest_slope}
use Rattle.tv_spec_katz.specs.Relations.{AreOrdered, AreIntegers, IsNormalized, HasMismatch}
use Rattle.tv_laws_integers.specs.Closed.{IsClosedList, IsListed}
use Rattle.tv_laws_integers.specs.Reading.{AgreeAt, BeginsAbove, AgreesThrough, IsBegun, IsSeen}

abbrev pub IntegersAre : Type 0
IntegersAre = (D : ℕ) (f : Family ℤ) → IsNormalized (pos 1) f → AreIntegers D f (integers D f)

abbrev pub IntegersOnly : Type 0
IntegersOnly = (D : ℕ) (f : Family ℤ) (is js : List Integer) → AreIntegers D f is → AreIntegers D f js → is ≡ js

abbrev pub OnlyWhereTheyBegin : Type 0
OnlyWhereTheyBegin = (D : ℕ) (hs : List ℤ) (is js : List Integer) → AreOrdered D hs is → AreOrdered D hs js
    → AllByRecursion (AgreeAt hs is js) is → AllByRecursion (AgreeAt hs is js) js → is ≡ js

abbrev pub IntegersListed : Type 0
IntegersListed = (D : ℕ) (f : Family ℤ) (vs : List (List ℤ)) (is : List Integer) → IsNormalized (pos 1) f → IsClosedList D f vs
    → AreIntegers D f is → AllByRecursion (IsListed vs) is

pub record GoesOn (D : ℕ) (f : Family ℤ) (read back : List (List ℤ)) (is : List Integer) : Type 0 where
  pub are : AreIntegers D f (read_classes f is back)
  pub kept : (v : List ℤ) → Contains read v → (n : ℤ) → katz f.heights (read_classes f is back) v n ≡ katz f.heights is v n

abbrev pub IntegersGoOn : Type 0
IntegersGoOn = (D : ℕ) (f : Family ℤ) (read back : List (List ℤ)) (is : List Integer) → IsNormalized (pos 1) f
    → IsClosedList D f (read ++ back) → IsBegun D f read is → GoesOn D f read back is

abbrev pub AgreeEverywhere : Type 0
AgreeEverywhere = (D : ℕ) (N : ℤ) (f : Family ℤ) (vs : List (List ℤ)) (is : List Integer)
    → IsNormalized N f → IsClosedList D f vs → AllByRecursion (IsListed vs) is
    → AllByRecursion (AgreesThrough N f is) vs → (v : List ℤ) (n : ℤ) → IsCompared D N f v n → Agrees f is v n

abbrev pub SlopeOfSeries : Type 0
SlopeOfSeries = (D : ℕ) (f : Family ℤ) (is : List Integer) (c : ℕ) → AreIntegers D f is
    → (greatest_slope f.heights is ≤ c → BeginsAbove D f c)
    × (BeginsAbove D f c → greatest_slope f.heights is ≤ c)

abbrev pub ReducedNormalized : Type 0
ReducedNormalized = (w : Web) (d : ℕ) (n : ℤ) (f : Family ℤ) → IsGraded w → length w.heights ≡ length w.points → pos 0 ≤ℤ n
    → IsReducedFamily wholes w (no_legs w) d n f → IsNormalized n f

abbrev pub ReducedClassesAddUp : Type 0
ReducedClassesAddUp = (w : Web) (d : ℕ) (n : ℤ) (f : Family ℤ) → IsGraded w → IsReducedFamily wholes w (no_legs w) d n f
    → (u v : List ℤ) → Contains (classes f.rows) u → Contains (classes f.rows) v → degree_of f.heights (plus u v) ≤ℤ pos d
    → Contains (classes f.rows) (plus u v)

abbrev pub IntegersAtClasses : Type 0
IntegersAtClasses = (w : Web) (d : ℕ) (n : ℤ) (f : Family ℤ) → IsGraded w → length w.heights ≡ length w.points → pos 1 ≤ℤ n
    → IsReducedFamily wholes w (no_legs w) d n f → (is : List Integer) → AreIntegers d f is
    → AllByRecursion (IsListed (classes f.rows)) is

abbrev pub MismatchFirst : Type 0
MismatchFirst = (D : ℕ) (N : ℤ) (f : Family ℤ) (v : List ℤ) (n : ℤ) → IsNormalized (pos 1) f
    → (HasMismatch D N f v n → IsMismatch D N f (integers D f) v n)
    × (IsMismatch D N f (integers D f) v n → HasMismatch D N f v n)

abbrev pub MismatchOnly : Type 0
MismatchOnly = (D : ℕ) (N : ℤ) (f : Family ℤ) (v u : List ℤ) (n m : ℤ)
    → HasMismatch D N f v n → HasMismatch D N f u m → (v ≡ u) × (n ≡ m)

abbrev pub NoMismatch : Type 0
NoMismatch = (D : ℕ) (N : ℤ) (f : Family ℤ) (is : List Integer) → AreIntegers D f is
    → ((v : List ℤ) (n : ℤ) → IsCompared D N f v n → Agrees f is v n) → (v : List ℤ) (n : ℤ) → HasMismatch D N f v n → ⊥

abbrev pub MismatchSeen : Type 0
MismatchSeen = (D : ℕ) (N : ℤ) (f : Family ℤ) (read back : List (List ℤ)) (is : List Integer) (v : List ℤ) (n : ℤ) → pos 1 ≤ℤ N
    → IsNormalized N f → IsClosedList D f (read ++ back) → IsBegun D f read is → IsSeen N f read is v n → HasMismatch D N f v n
