use Rattle.std.proofs.Common.{◌≡◌, ◌≤◌, ◌*◌, ◌+ℤ◌, unsigned_abs}
use Rattle.tv_spec_plane.specs.Web.{degree_of}
use Rattle.tv_lattice.proofs.Sums.{degree_from}
use Rattle.tv_lattice.proofs.class.degree_of.Given as goal

abbrev pub invariant-loop-k : goal.invariant-loop-k
invariant-loop-k l = record {
  sum : l.total +ℤ degree_from l.heights l.entries l.k ≡ degree_of l.heights l.entries;
  bound : unsigned_abs l.total ≤ l.k * 100000000000000000;
}
