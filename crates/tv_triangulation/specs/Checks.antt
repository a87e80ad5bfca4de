-- What is checked of triangles over listed points.
--
-- IsFirstNot P ts t   == triangle t is the first without the fact P
-- AreListed ps ts     == each triangle names listed points
-- AreUnit ps ts       == each has the doubled area 1
-- IsShared s t u      == the directed segment s is a side of both triangles
-- IsTwice ts t u      == triangles t < u have a directed edge in common
-- IsUnmatched IsOuter es a b == a to b is an edge, b to a is none, and a to b is not outer
-- IsBare IsOuter es a b == a to b is outer and no edge
-- IsListedIn hull a b == a to b is in the list
-- NoPair P            == P holds of no pair
use Rattle.std.specs.Prelude.{ℕ, ◌<◌, List, length, take}
use Rattle.std.specs.List.{AllByRecursion}
use Rattle.tv_spec_plane.specs.declared.records.Triple.{Triple}
use Rattle.tv_spec_plane.specs.Plane.{Point, Segment}
use Rattle.tv_spec_plane.specs.Tiling.{triangle_at}
use Rattle.tv_laws_tiling.specs.Members.{Among}
use Rattle.tv_laws_tiling.specs.Edges.{sides, IsListed}
use Rattle.tv_triangulation.specs.Turned.{IsUnit}

abbrev pub IsFirstNot : (Triple → Type 0) → List Triple → ℕ → Type 0
IsFirstNot P ts t = (t < length ts) × AllByRecursion P (take t ts) × (P (triangle_at ts t) → ⊥)

abbrev pub AreListed : List Point → List Triple → Type 0
AreListed ps ts = AllByRecursion (IsListed ps) ts

abbrev pub AreUnit : List Point → List Triple → Type 0
AreUnit ps ts = AllByRecursion (IsUnit ps) ts

pub record IsShared (s : Segment) (t u : Triple) : Type 0 where
  pub first : Among s (sides t)
  pub second : Among s (sides u)

pub record IsTwice (ts : List Triple) (t u : ℕ) : Type 0 where
  pub ordered : t < u
  pub listed : u < length ts
  pub edge : Segment
  pub shared : IsShared edge (triangle_at ts t) (triangle_at ts u)

pub record IsUnmatched (IsOuter : ℕ → ℕ → Type 0) (es : List Segment) (a b : ℕ) : Type 0 where
  pub edge : Among (a, b) es
  pub lone : Among (b, a) es → ⊥
  pub inner : IsOuter a b → ⊥

pub record IsBare (IsOuter : ℕ → ℕ → Type 0) (es : List Segment) (a b : ℕ) : Type 0 where
  pub outer : IsOuter a b
  pub bare : Among (a, b) es → ⊥

abbrev pub NoPair : (ℕ → ℕ → Type 0) → Type 0
NoPair P = (a b : ℕ) → P a b → ⊥

abbrev pub IsListedIn : List Segment → ℕ → ℕ → Type 0
IsListedIn hull a b = Among (a, b) hull
