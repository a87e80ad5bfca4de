use Rattle.std.proofs.Common.{◌≡◌, ◌<◌, ℕ, length}
use Rattle.std.specs.Prelude.{pos, [], slice_index_or}
use Rattle.std.specs.List.{AllByRecursion}
use Rattle.tv_frontier.specs.Rows.{IsBound}
use Rattle.tv_frontier.specs.Bounds.{Suffices}
use Rattle.tv_frontier.proofs.plan.bounds_before.Given as goal

abbrev pub invariant-loop-k : goal.invariant-loop-k
invariant-loop-k l = record {
  long : length l.bounds.items ≡ l.k;
  each : AllByRecursion (IsBound l.stage.web.now l.stage.d l.stage.n) l.bounds.items;
  suffice : (q : ℕ) → q < l.k → Suffices l.stage.web.now l.stage.d l.stage.n l.stage.t l.next (slice_index_or l.keys.items q []) (slice_index_or l.bounds.items q (pos 0));
}
