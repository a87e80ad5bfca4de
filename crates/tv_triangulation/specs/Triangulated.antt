-- Triangulations of listed points.
--
-- IsTiled ps ts == the points are distinct and not all on one line, each triangle names listed points and has the
--                  doubled area 1, and the triangles tile the hull
use Rattle.std.specs.Prelude.{List}
use Rattle.tv_spec_plane.specs.declared.records.Triple.{Triple}
use Rattle.tv_spec_plane.specs.Plane.{Point}
use Rattle.tv_spec_plane.specs.Tiling.{Tiles}
use Rattle.tv_laws_tiling.specs.Points.{AreDistinct, SpansPlane}
use Rattle.tv_triangulation.specs.Checks.{AreListed, AreUnit}

pub record IsTiled (ps : List Point) (ts : List Triple) : Type 0 where
  pub distinct : AreDistinct ps
  pub spread : SpansPlane ps
  pub listed : AreListed ps ts
  pub unit : AreUnit ps ts
  pub tiles : Tiles ps ts
