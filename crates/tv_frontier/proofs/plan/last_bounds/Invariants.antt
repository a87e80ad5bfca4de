use Rattle.std.proofs.Common.{◌≡◌, length}
use Rattle.std.specs.List.{AllByRecursion}
use Rattle.tv_frontier.specs.Rows.{IsBound}
use Rattle.tv_frontier.specs.Bounds.{AllReach}
use Rattle.tv_frontier.proofs.plan.last_bounds.Given as goal

abbrev pub invariant-loop-k : goal.invariant-loop-k
invariant-loop-k l = record {
  long : length l.bounds.items ≡ l.k;
  each : AllByRecursion (IsBound l.stage.web.now l.stage.d l.stage.n) l.bounds.items;
  reach : AllReach l.stage.n l.bounds.items;
}
