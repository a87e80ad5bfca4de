use Rattle.std.proofs.Common.{◌≡◌, ◌≤◌, ◌*◌, ◌+ℤ◌, unsigned_abs, map}
use Rattle.tv_spec_plane.specs.Web.{degree_of, below}
use Rattle.tv_lattice.proofs.Sums.{degree_from}
use Rattle.tv_degrees.specs.Edges.{entry_by}
use Rattle.tv_degrees.proofs.degrees.sum_of.Given as goal

abbrev pub invariant-loop-k : goal.invariant-loop-k
invariant-loop-k l = record {
  sum : l.total +ℤ degree_from l.heights (map (entry_by l.edge l.a l.b) (below l.count)) l.k ≡ degree_of l.heights (map (entry_by l.edge l.a l.b) (below l.count));
  bound : unsigned_abs l.total ≤ l.k * 100000000000000000;
}
