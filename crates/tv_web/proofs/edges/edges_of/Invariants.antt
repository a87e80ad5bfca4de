use Rattle.std.proofs.Common.{◌≡◌, ◌++◌}
use Rattle.tv_web.specs.Edges.{gathered, compact_row, outer_row}
use Rattle.tv_web.proofs.edges.edges_of.Given as goal

abbrev pub invariant-loop-a : goal.invariant-loop-a
invariant-loop-a l = record {
  compact : l.edges.compact.items ++ gathered (compact_row l.triangles l.count) l.a l.count ≡ gathered (compact_row l.triangles l.count) 0 l.count;
  outer : l.edges.outer.items ++ gathered (outer_row l.triangles l.count) l.a l.count ≡ gathered (outer_row l.triangles l.count) 0 l.count;
}
