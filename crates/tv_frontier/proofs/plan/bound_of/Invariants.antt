use Rattle.std.proofs.Common.{◌≤◌, take}
use Rattle.std.specs.Prelude.{pos, ◌+ℤ◌, ◌≤ℤ◌, unsigned_abs}
use Rattle.std.specs.List.{AllByRecursion}
use Rattle.tv_frontier.specs.Bounds.{NeedsAtMost}
use Rattle.tv_frontier.proofs.plan.bound_of.Given as goal

abbrev pub invariant-loop-k : goal.invariant-loop-k
invariant-loop-k l = record {
  first : l.stage.floor ≤ℤ (l.bound +ℤ pos 1);
  small : unsigned_abs l.bound ≤ 300000000;
  needs : AllByRecursion (NeedsAtMost l.stage.web.now l.stage.d l.stage.t l.next l.key l.bound) (take l.k l.step.options.items);
}
