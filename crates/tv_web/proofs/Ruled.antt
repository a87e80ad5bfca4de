-- The triangles of a triangulation tile, so their web keeps the rule of its edges, and each edge of a corner is listed.
use Rattle.std.specs.List.{AllByRecursion}
use Rattle.tv_spec_plane.specs.Tiling.{Tiles}
use Rattle.tv_lattice.specs.Limits.{HasCoordinates}
use Rattle.tv_triangulation.specs.Mesh.{Mesh, IsTriangulated}
use Rattle.tv_laws_tiled_edges.proofs.Rules.{has_edge_rule}
use Rattle.tv_laws_tiled_edges.proofs.Named.{names_edges}
use Rattle.tv_laws_tiled_edges.proofs.Turned.{turned-tiled}
use Rattle.tv_web.specs.Built.{bare_web, IsRuled}

pub triangulated-ruled : (m : Mesh) → AllByRecursion HasCoordinates m.points → IsTriangulated m → Tiles m.points m.triangles → IsRuled (bare_web m.points m.triangles)
triangulated-ruled m small mesh tiles =
    let w = bare_web m.points m.triangles in
    let tiled = turned-tiled m.points m.triangles mesh.distinct mesh.spread mesh.turned tiles in
    record { rule = has_edge_rule w small tiled; named = names_edges w small tiled; coordinates = small }
