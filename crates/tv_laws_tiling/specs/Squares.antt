-- Triangles in the unit square.
--
-- square      == its four points, counter-clockwise from the origin
-- rising      == the triangles 0 1 2 and 0 2 3, on the two sides of the diagonal of 0 and 2
-- falling     == the triangles 0 1 3 and 1 2 3, on the two sides of the diagonal of 1 and 3
-- overlapping == the triangles 0 1 2 and 0 1 3
-- middle      == the point (1/2, 1/5)
-- IsUnit t    == triangle t of the square is unimodular
-- area_of ts  == the doubled areas of triangles of the square, added up
-- DiagonalsTile == the triangles on the two sides of either diagonal tile the square
-- OverlappingTrianglesDoNotTile == those of overlapping are unimodular, their areas add up to those of rising, the middle
--                is in both, and they do not tile the square
use Rattle.std.specs.Prelude.{◌≡◌, ℕ, ◌+◌, pos, List, [], ◌∷◌}
use Rattle.std.specs.List.{AllByRecursion}
use Rattle.tv_spec_plane.specs.declared.records.Triple.{Triple}
use Rattle.tv_spec_plane.specs.Plane.{Point, at, doubled_area, IsUnimodular}
use Rattle.tv_spec_plane.specs.Tiling.{Rational, IsInTriangle, Tiles}

abbrev pub square : List Point
square = record { x = pos 0; y = pos 0 } ∷ record { x = pos 1; y = pos 0 } ∷ record { x = pos 1; y = pos 1 } ∷ record { x = pos 0; y = pos 1 } ∷ []

abbrev pub rising : List Triple
rising = record { a = 0; b = 1; c = 2 } ∷ record { a = 0; b = 2; c = 3 } ∷ []

abbrev pub falling : List Triple
falling = record { a = 0; b = 1; c = 3 } ∷ record { a = 1; b = 2; c = 3 } ∷ []

abbrev pub overlapping : List Triple
overlapping = record { a = 0; b = 1; c = 2 } ∷ record { a = 0; b = 1; c = 3 } ∷ []

abbrev pub middle : Rational
middle = record { x = pos 5; y = pos 2; k = 10 }

abbrev pub IsUnit : Triple → Type 0
IsUnit t = IsUnimodular (at square t.a) (at square t.b) (at square t.c)

abbrev pub area_of : List Triple → ℕ
area_of [] = 0
area_of (t ∷ ts) = doubled_area (at square t.a) (at square t.b) (at square t.c) + area_of ts

abbrev pub DiagonalsTile : Type 0
DiagonalsTile = Tiles square rising × Tiles square falling

pub record OverlappingTrianglesDoNotTile : Type 0 where
  pub unimodular : AllByRecursion IsUnit overlapping
  pub areas : area_of overlapping ≡ area_of rising
  pub overlap : AllByRecursion (λ t. IsInTriangle square t middle) overlapping
  pub not_tiling : Tiles square overlapping → ⊥
