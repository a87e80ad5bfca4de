-- Triangles turned counter-clockwise are a triangulation where they tile, and they tile where they did before.
use Rattle.std.specs.Prelude.{List, [], ◌∷◌, unsigned_abs}
use Rattle.std.proofs.Common.{ap}
use Rattle.tv_spec_plane.specs.declared.records.Triple.{Triple}
use Rattle.tv_spec_plane.specs.Plane.{Point}
use Rattle.tv_spec_plane.specs.Tiling.{Tiles}
use Rattle.tv_laws_tiling.specs.Edges.{AreTurned}
use Rattle.tv_laws_tiling.specs.Points.{AreDistinct, SpansPlane}
use Rattle.tv_laws_tiling.proofs.Exchanges.{exchanged_triangles_tile}
use Rattle.tv_triangulation.specs.Checks.{AreListed, AreUnit}
use Rattle.tv_triangulation.specs.Turned.{turned}
use Rattle.tv_triangulation.proofs.Turning.{turned-all}
use Rattle.tv_triangulation.specs.Triangulated.{IsTiled}
use Rattle.tv_triangulation.proofs.Untwisted.{exchange_at, length-turned}

turned-listed : (ps : List Point) (ts : List Triple) → AreTurned ps ts → AreListed ps ts
turned-listed ps [] turned = tt
turned-listed ps (t ∷ ts) turned = (turned.0.listed, turned-listed ps ts turned.1)

turned-unit : (ps : List Point) (ts : List Triple) → AreTurned ps ts → AreUnit ps ts
turned-unit ps [] turned = tt
turned-unit ps (t ∷ ts) turned = (ap unsigned_abs turned.0.turned, turned-unit ps ts turned.1)

pub turned-tiled : (ps : List Point) (ts : List Triple) → AreDistinct ps → SpansPlane ps → AreTurned ps ts → Tiles ps ts → IsTiled ps ts
turned-tiled ps ts distinct spread turns tiles = record {
  distinct = distinct;
  spread = spread;
  listed = turned-listed ps ts turns;
  unit = turned-unit ps ts turns;
  tiles = tiles;
}

pub tiled-turned : (ps : List Point) (ts : List Triple) → IsTiled ps ts → IsTiled ps (turned ps ts)
tiled-turned ps ts tiled =
    let tiles = (exchanged_triangles_tile ps ts (turned ps ts) (length-turned ps ts) (exchange_at ps ts)).0 tiled.tiles in
    turned-tiled ps (turned ps ts) tiled.distinct tiled.spread (turned-all ps ts tiled.listed tiled.unit) tiles
