use Rattle.std.proofs.Common.{◌≡◌, ◌++◌, ◌≤◌, drop}
use Rattle.tv_frontier.specs.Picks.{put_by}
use Rattle.tv_frontier.proofs.picks.put.Given as goal

abbrev pub invariant-loop-k : goal.invariant-loop-k
invariant-loop-k l = record {
  put : l.all.items ++ put_by (drop l.k l.flags) (drop l.next l.choice) (drop l.k l.base) ≡ put_by l.flags l.choice l.base;
  few : l.next ≤ l.k;
}
