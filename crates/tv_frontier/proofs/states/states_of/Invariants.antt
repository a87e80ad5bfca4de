use Rattle.std.specs.Prelude.{◌≡◌, map, take}
use Rattle.std.specs.List.{AllByRecursion}
use Rattle.tv_frontier.specs.Frontiers.{IsPartialFamily}
use Rattle.tv_frontier.proofs.states.states_of.Given as goal

abbrev pub invariant-loop-k : goal.invariant-loop-k
invariant-loop-k g l = record {
  choices : map (λ s. s.choice) l.states.items ≡ take l.k l.layer.keys.items;
  each : AllByRecursion (λ s. IsPartialFamily g.C.Ring.ring l.stage.web.now l.stage.d l.stage.n l.stage.t s.choice s.family) l.states.items;
}
