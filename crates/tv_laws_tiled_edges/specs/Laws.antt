-- Triangles that tile, and the edges of their web, as laws.
--
-- TilingHasEdgeRule == where coordinates are within their limit and points and triangles are tiled, the triangles of
--                      each compact edge lie on its two sides
-- IsCompactPlace w k a b, IsOuterPlace w k a b == place k of the compact edges, or of the open ones, is that of a and b
-- NamesEdge w r a b == the place r is of either kind and has the edge of a and b
-- NamesEdges w c    == each of the corner's three edges has its two points
-- TilingNamesEdges  == there also each corner's edges stand in their lists
use Rattle.std.specs.Prelude.{◌≡◌, ℕ, ◌<◌, length}
use Rattle.std.specs.List.{AllByRecursion, HoldsAt}
use Rattle.tv_spec_plane.specs.declared.records.CompactEdge.{CompactEdge}
use Rattle.tv_spec_plane.specs.declared.records.OuterEdge.{OuterEdge}
use Rattle.tv_spec_plane.specs.declared.records.EdgeRef.{EdgeRef}
use Rattle.tv_spec_plane.specs.declared.records.EdgeRef.TheVariants.{Compact, Outer}
use Rattle.tv_spec_plane.specs.declared.records.Corner.{Corner}
use Rattle.tv_spec_plane.specs.Web.{Web, compact, outer, corners}
use Rattle.tv_lattice.specs.Limits.{HasCoordinates}
use Rattle.tv_triangulation.specs.Triangulated.{IsTiled}
use Rattle.tv_laws_edges.specs.Rule.{HasEdgeRule}

abbrev pub TilingHasEdgeRule : Type 0
TilingHasEdgeRule = (w : Web) → AllByRecursion HasCoordinates w.points → IsTiled w.points w.triangles → HasEdgeRule w

pub record IsCompactPlace (w : Web) (k a b : ℕ) : Type 0 where
  pub listed : k < length (compact w)
  pub of_both : HoldsAt (λ (e : CompactEdge). (e.a ≡ a) × (e.b ≡ b)) (compact w) k

pub record IsOuterPlace (w : Web) (k a b : ℕ) : Type 0 where
  pub listed : k < length (outer w)
  pub of_both : HoldsAt (λ (e : OuterEdge). (e.a ≡ a) × (e.b ≡ b)) (outer w) k

abbrev pub NamesEdge : Web → EdgeRef → ℕ → ℕ → Type 0
NamesEdge w (Compact k) a b = IsCompactPlace w k a b
NamesEdge w (Outer k) a b = IsOuterPlace w k a b

-- along each coordinate the edge of the other two points
pub record NamesEdges (w : Web) (c : Corner) : Type 0 where
  pub along_x : NamesEdge w c.along_x c.y c.z
  pub along_y : NamesEdge w c.along_y c.x c.z
  pub along_z : NamesEdge w c.along_z c.x c.y

abbrev pub TilingNamesEdges : Type 0
TilingNamesEdges = (w : Web) → AllByRecursion HasCoordinates w.points → IsTiled w.points w.triangles → AllByRecursion (NamesEdges w) (corners w)
