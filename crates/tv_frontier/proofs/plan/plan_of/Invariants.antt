use Rattle.std.specs.Prelude.{◌≤◌}
use Rattle.tv_frontier.specs.Bounds.{IsPlan}
use Rattle.tv_frontier.proofs.plan.plan_of.Given as goal

abbrev pub invariant-loop-k : goal.invariant-loop-k
invariant-loop-k l = record {
  some : 1 ≤ l.k;
  plan : IsPlan l.stage.web.now l.stage.d l.stage.n l.stage.t l.k l.plan.items;
}
