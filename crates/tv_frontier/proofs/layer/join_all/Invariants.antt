use Rattle.std.proofs.Common.{take, suc}
use Rattle.std.specs.Prelude.{length, ◌≡◌}
use Rattle.tv_frontier.specs.Layers.{AllShaped, classed, layer_addends, GrowsBy}
use Rattle.tv_frontier.proofs.layer.join_all.Given as goal

abbrev pub invariant-loop-k : goal.invariant-loop-k
invariant-loop-k g l = record {
  one_each : length l.parts ≡ length l.step.keys.items;
  shaped : AllShaped l.stage.web.now l.stage.d l.bounds l.parts;
  grows : GrowsBy g.C.Ring.IsValue g.C.Ring.ring l.stage.web.now l.stage.d l.stage.n (suc l.stage.t) (layer_addends l.stage.web.now l.stage.d l.stage.n l.stage.t l.step.options.items (take l.k (classed l.layer.keys.items l.layer.parts.items))) l.step.keys.items l.initial.parts l.parts;
}
