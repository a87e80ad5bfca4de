-- The corners of a web, by its lists of edges.
--
-- edge_ref_in cs os a b == the place of the edge of a and b in one of the two lists
-- corner_in cs os t     == a triangle with its points in rising order and its edges
use Rattle.std.specs.Prelude.{ℕ, List, length, cond, nat_lt}
use Rattle.std.specs.List.{position_or_len}
use Rattle.tv_spec_plane.specs.declared.records.Triple.{Triple}
use Rattle.tv_spec_plane.specs.declared.records.CompactEdge.{CompactEdge}
use Rattle.tv_spec_plane.specs.declared.records.OuterEdge.{OuterEdge}
use Rattle.tv_spec_plane.specs.declared.records.EdgeRef.{EdgeRef}
use Rattle.tv_spec_plane.specs.declared.records.EdgeRef.TheVariants.{Compact, Outer}
use Rattle.tv_spec_plane.specs.declared.records.Corner.{Corner}
use Rattle.tv_spec_plane.specs.Web.{names_compact, names_outer, rising}

unfoldable pub edge_ref_in : List CompactEdge → List OuterEdge → ℕ → ℕ → EdgeRef
edge_ref_in cs os a b =
    let inner = position_or_len (names_compact a b) cs in
    cond (nat_lt inner (length cs)) (Compact inner) (Outer (position_or_len (names_outer a b) os))

abbrev pub corner_in : List CompactEdge → List OuterEdge → Triple → Corner
corner_in cs os t = record { x = (rising t.a t.b t.c).0; y = (rising t.a t.b t.c).1; z = (rising t.a t.b t.c).2; along_x = edge_ref_in cs os (rising t.a t.b t.c).1 (rising t.a t.b t.c).2; along_y = edge_ref_in cs os (rising t.a t.b t.c).0 (rising t.a t.b t.c).2; along_z = edge_ref_in cs os (rising t.a t.b t.c).0 (rising t.a t.b t.c).1 }
