use Rattle.std.proofs.Common.{take, suc}
use Rattle.std.specs.Prelude.{length, ◌≡◌}
use Rattle.tv_spec_series.specs.Families.{classes}
use Rattle.tv_frontier.specs.Layers.{AllShaped, state_addends, GrowsBy}
use Rattle.tv_frontier.proofs.layers.join_state.Given as goal

abbrev pub invariant-loop-k : goal.invariant-loop-k
invariant-loop-k g l = record {
  one_each : length l.parts ≡ length l.step.keys.items;
  shaped : AllShaped l.stage.web.now l.stage.d l.bounds l.parts;
  grows : GrowsBy g.C.Ring.IsValue g.C.Ring.ring l.stage.web.now l.stage.d l.stage.n (suc l.stage.t) (state_addends l.stage.web.now l.stage.d l.stage.n l.stage.t (take l.k l.step.options.items) (l.key, classes l.part.rows)) l.step.keys.items l.initial.parts l.parts;
}
