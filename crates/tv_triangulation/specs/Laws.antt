-- What the checks of triangles mean.
--
-- PassingTrianglesTile == what passes the checks, with coordinates within their limit, is a triangulation that tiles
-- TilingTrianglesPass  == what tiles, with such coordinates, fails no check
-- OneTriangleIsACorner == one triangle that passes has no listed point beside its own three
use Rattle.std.specs.Prelude.{◌≡◌, List, [], ◌∷◌, length}
use Rattle.std.specs.List.{AllByRecursion}
use Rattle.tv_spec_plane.specs.declared.records.Triple.{Triple}
use Rattle.tv_spec_plane.specs.Plane.{Point}
use Rattle.tv_lattice.specs.Limits.{HasCoordinates}
use Rattle.tv_lattice.specs.declared.fault.FileFault.{FileFault}
use Rattle.tv_triangulation.specs.Mesh.{Mesh}
use Rattle.tv_triangulation.specs.Faults.{IsFirstFault, PassesChecks}
use Rattle.tv_spec_plane.specs.Web.{NamesAll}
use Rattle.tv_triangulation.specs.Triangulated.{IsTiled}

abbrev pub PassingTrianglesTile : Type 0
PassingTrianglesTile = (ps : List Point) (ts : List Triple) (m : Mesh) → AllByRecursion HasCoordinates ps → PassesChecks ps ts m → IsTiled ps ts

abbrev pub TilingTrianglesPass : Type 0
TilingTrianglesPass = (ps : List Point) (ts : List Triple) (f : FileFault) → AllByRecursion HasCoordinates ps → IsTiled ps ts
    → IsFirstFault ps ts f → ⊥

abbrev pub OneTriangleIsACorner : Type 0
OneTriangleIsACorner = (ps : List Point) (t : Triple) (m : Mesh) → PassesChecks ps (t ∷ []) m → (length ps ≡ 3) × NamesAll t
