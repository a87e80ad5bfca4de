use Rattle.std.proofs.Common.{◌≡◌, ◌≤◌, ◌*◌, ◌+ℤ◌, unsigned_abs}
use Rattle.tv_spec_plane.specs.Web.{even_sum}
use Rattle.tv_degrees.proofs.Signs.{even_from}
use Rattle.tv_degrees.proofs.sign.even_sum.Given as goal

abbrev pub invariant-loop-k : goal.invariant-loop-k
invariant-loop-k l = record {
  sum : l.total +ℤ even_from l.points l.entries l.k ≡ even_sum l.points l.entries;
  bound : unsigned_abs l.total ≤ l.k * 100000000000;
}
