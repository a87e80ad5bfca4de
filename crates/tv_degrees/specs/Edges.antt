-- Single edges of a web and the entries of their classes.
--
-- edge_at w e    == compact edge number e
-- entry_by e m n k == the entry at point k of an edge with the normal degrees m and n
-- with_heights w hs == the web with these heights
-- IsNormalDegree z == at most 402 in absolute value, as the normal degrees are where the edge has its rule
use Rattle.std.specs.Prelude.{ℕ, ◌≤◌, ℤ, pos, List, slice_index_or, cond, ◌||◌, nat_eq, unsigned_abs}
use Rattle.tv_spec_plane.specs.declared.records.CompactEdge.{CompactEdge}
use Rattle.tv_spec_plane.specs.Web.{Web, no_edge, compact}

abbrev pub edge_at : Web → ℕ → CompactEdge
edge_at w e = slice_index_or (compact w) e no_edge

abbrev pub entry_by : CompactEdge → ℤ → ℤ → ℕ → ℤ
entry_by e m n k = cond (nat_eq k e.c || nat_eq k e.d) (pos 1) (cond (nat_eq k e.a) m (cond (nat_eq k e.b) n (pos 0)))

abbrev pub with_heights : Web → List ℤ → Web
with_heights w hs = record w { heights = hs }

abbrev pub IsNormalDegree : ℤ → Type 0
IsNormalDegree z = unsigned_abs z ≤ 402
