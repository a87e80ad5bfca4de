use Rattle.std.proofs.Common.{◌≡◌, ◌+◌, ℕ, suc}
use Rattle.std.specs.Prelude.{[], slice_index_or}
use Rattle.tv_frontier.specs.Bounds.{uptos, AllSuffice, AllReach}
use Rattle.tv_frontier.specs.Layers.{IsLayer}
use Rattle.tv_frontier.proofs.after.layer_after.Given as goal

abbrev pub invariant-loop-t : goal.invariant-loop-t
invariant-loop-t g l = record {
  layer : IsLayer g.C.Ring.IsValue g.C.Ring.ring l.stage.web.now l.stage.d l.stage.n l.t l.layer.keys.items l.layer.parts.items;
  suffice : (j : ℕ) → l.t + suc j ≡ l.stage.t → AllSuffice l.stage.web.now l.stage.d l.stage.n l.t (slice_index_or l.plan.items j []) (uptos l.layer.parts.items);
  reach : l.t ≡ l.stage.t → AllReach l.stage.n (uptos l.layer.parts.items);
}
