-- What is true of matched edges and of tilings, as laws.
--
-- MatchedTrianglesTile  == over small points, not all on a line, turned triangles whose directed edges match among
--                          themselves and with the hull tile the hull
-- IsExchange t u        == u is t, or t with its last two points exchanged
-- ExchangedTrianglesTile == such an exchange in any of the triangles changes nothing for a tiling
use Rattle.std.specs.Prelude.{◌≡◌, ℕ, ◌<◌, ◌⊎◌, ◌↔◌, List, length}
use Rattle.tv_spec_plane.specs.declared.records.Triple.{Triple}
use Rattle.tv_spec_plane.specs.Plane.{Point, Segment}
use Rattle.tv_spec_plane.specs.Tiling.{Tiles, triangle_at}
use Rattle.tv_laws_tiling.specs.Hull.{IsHull}
use Rattle.tv_laws_tiling.specs.Edges.{AreTurned, IsMatched}
use Rattle.tv_laws_tiling.specs.Points.{AreSmall, SpansPlane}

-- not all on a line: where all points are one, the empty list of triangles is matched, and each rational point is in the
-- hull and in no triangle
abbrev pub MatchedTrianglesTile : Type 0
MatchedTrianglesTile = (ps : List Point) (ts : List Triple) (hull : List Segment) → AreSmall ps → SpansPlane ps → IsHull ps hull
    → AreTurned ps ts → IsMatched hull ts → Tiles ps ts

abbrev pub IsExchange : Triple → Triple → Type 0
IsExchange t u = (u ≡ t) ⊎ (u ≡ record { a = t.a; b = t.c; c = t.b })

abbrev pub ExchangedTrianglesTile : Type 0
ExchangedTrianglesTile = (ps : List Point) (ts us : List Triple) → length ts ≡ length us
    → ((i : ℕ) → i < length ts → IsExchange (triangle_at ts i) (triangle_at us i)) → Tiles ps ts ↔ Tiles ps us
