-- What is true of tilings, as a law.
--
-- TilingTrianglesMatch == over distinct small points, not all on a line, the directed edges of turned triangles that tile
--                         the hull match
use Rattle.std.specs.Prelude.{List}
use Rattle.tv_spec_plane.specs.declared.records.Triple.{Triple}
use Rattle.tv_spec_plane.specs.Plane.{Point, Segment}
use Rattle.tv_spec_plane.specs.Tiling.{Tiles}
use Rattle.tv_laws_tiling.specs.Hull.{IsHull}
use Rattle.tv_laws_tiling.specs.Edges.{AreTurned, IsMatched}
use Rattle.tv_laws_tiling.specs.Points.{AreSmall, AreDistinct, SpansPlane}

-- not all on a line: two points alone are tiled by no triangles, but their two hull segments are no sides
abbrev pub TilingTrianglesMatch : Type 0
TilingTrianglesMatch = (ps : List Point) (ts : List Triple) (hull : List Segment) → AreSmall ps → AreDistinct ps → SpansPlane ps
    → IsHull ps hull → AreTurned ps ts → Tiles ps ts → IsMatched hull ts
