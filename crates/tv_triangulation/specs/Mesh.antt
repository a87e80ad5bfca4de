-- Points and triangles over them, and those whose triangles fit together.
--
-- Mesh               == points and triangles over them
-- IsTriangulated m   == the triangles are unimodular and counter-clockwise, and their directed edges match among
--                       themselves and with the hull of the points
-- IsFew m            == as many points and triangles as a file may list, or fewer
use Rattle.std.specs.Prelude.{◌≤◌, List, length}
use Rattle.tv_spec_plane.specs.declared.records.Triple.{Triple}
use Rattle.tv_spec_plane.specs.declared.limits.TheConstants.{MOST_POINTS, MOST_TRIANGLES}
use Rattle.tv_spec_plane.specs.Plane.{Point, Segment}
use Rattle.tv_laws_tiling.specs.Hull.{IsHull}
use Rattle.tv_laws_tiling.specs.Edges.{AreTurned, IsMatched}
use Rattle.tv_laws_tiling.specs.Points.{AreDistinct, SpansPlane}

pub record Mesh : Type 0 where
  pub points : List Point
  pub triangles : List Triple

pub record IsTriangulated (m : Mesh) : Type 0 where
  pub hull : List Segment
  pub distinct : AreDistinct m.points
  pub spread : SpansPlane m.points
  pub is_hull : IsHull m.points hull
  pub turned : AreTurned m.points m.triangles
  pub matched : IsMatched hull m.triangles

pub record IsFew (m : Mesh) : Type 0 where
  pub points : length m.points ≤ MOST_POINTS
  pub triangles : length m.triangles ≤ MOST_TRIANGLES
