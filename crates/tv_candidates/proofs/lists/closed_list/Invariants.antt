use Rattle.std.proofs.Common.{pos, ◌-ℤ◌, ◌≤ℤ◌}
use Rattle.tv_candidates.specs.Closing.{IsClosedTo}
use Rattle.tv_candidates.proofs.lists.closed_list.Given as goal

abbrev pub invariant-loop-degree : goal.invariant-loop-degree
invariant-loop-degree l = record {
  least : pos 1 ≤ℤ l.degree;
  closed : IsClosedTo l.family (l.degree -ℤ pos 1) l.closed;
}
