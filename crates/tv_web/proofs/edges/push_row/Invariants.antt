use Rattle.std.proofs.Common.{◌≡◌, ◌++◌}
use Rattle.tv_web.specs.Edges.{gathered, compact_pair, outer_pair, compact_row, outer_row}
use Rattle.tv_web.proofs.edges.push_row.Given as goal

abbrev pub invariant-loop-b : goal.invariant-loop-b
invariant-loop-b l = record {
  compact : l.edges.compact.items ++ gathered (compact_pair l.triangles l.a) l.b l.count ≡ l.initial.edges.compact.items ++ compact_row l.triangles l.count l.a;
  outer : l.edges.outer.items ++ gathered (outer_pair l.triangles l.a) l.b l.count ≡ l.initial.edges.outer.items ++ outer_row l.triangles l.count l.a;
}
