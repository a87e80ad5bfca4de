-- What the lists of a built web are.
--
-- bare_web ps ts == the web of these points and triangles, without heights
-- IsBuilt w cs os ks == as many points and triangles as a file may list, or fewer, and the lists are the compact edges, the open edges, of which
--                       there are at most 4096 each, and the corners
-- IsRuled w          == every compact edge has its rule, every corner's edges stand in their lists, and the coordinates are
--                       within their limit
use Rattle.std.specs.Prelude.{◌≡◌, ◌≤◌, List, [], length}
use Rattle.std.specs.List.{AllByRecursion}
use Rattle.tv_spec_plane.specs.declared.records.Triple.{Triple}
use Rattle.tv_spec_plane.specs.declared.records.CompactEdge.{CompactEdge}
use Rattle.tv_spec_plane.specs.declared.records.OuterEdge.{OuterEdge}
use Rattle.tv_spec_plane.specs.declared.records.Corner.{Corner}
use Rattle.tv_spec_plane.specs.declared.limits.TheConstants.{MOST_POINTS, MOST_TRIANGLES}
use Rattle.tv_spec_plane.specs.Plane.{Point}
use Rattle.tv_spec_plane.specs.Web.{Web, compact, outer, corners}
use Rattle.tv_lattice.specs.Limits.{HasCoordinates}
use Rattle.tv_laws_edges.specs.Rule.{HasEdgeRule}
use Rattle.tv_laws_tiled_edges.specs.Laws.{NamesEdges}

abbrev pub bare_web : List Point → List Triple → Web
bare_web ps ts = record { points = ps; triangles = ts; heights = [] }

pub record IsBuilt (w : Web) (cs : List CompactEdge) (os : List OuterEdge) (ks : List Corner) : Type 0 where
  pub few_points : length w.points ≤ MOST_POINTS
  pub few_triangles : length w.triangles ≤ MOST_TRIANGLES
  pub few_compact : length cs ≤ 4096
  pub few_outer : length os ≤ 4096
  pub compact_is : cs ≡ compact w
  pub outer_is : os ≡ outer w
  pub corners_is : ks ≡ corners w

pub record IsRuled (w : Web) : Type 0 where
  pub rule : HasEdgeRule w
  pub named : AllByRecursion (NamesEdges w) (corners w)
  pub coordinates : AllByRecursion HasCoordinates w.points
