-- Webs with heights under which every compact edge has a positive degree.
--
-- HasDegree w e == the degree of the edge is at least 1
-- IsGraded w    == every compact edge has a degree of at least 1
use Rattle.std.specs.Prelude.{pos, ◌<ℤ◌}
use Rattle.std.specs.List.{AllByRecursion}
use Rattle.tv_spec_plane.specs.declared.records.CompactEdge.{CompactEdge}
use Rattle.tv_spec_plane.specs.Web.{Web, compact, edge_degree}

abbrev pub HasDegree : Web → CompactEdge → Type 0
HasDegree w e = pos 0 <ℤ edge_degree w e

abbrev pub IsGraded : Web → Type 0
IsGraded w = AllByRecursion (HasDegree w) (compact w)
