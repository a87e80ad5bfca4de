use Rattle.std.proofs.Common.{take}
use Rattle.tv_frontier.specs.Layers.{AreWithout}
use Rattle.tv_frontier.proofs.layer.empty_parts.Given as goal

abbrev pub invariant-loop-k : goal.invariant-loop-k
invariant-loop-k g l = AreWithout l.stage.web.now l.stage.d (take l.k l.bounds) l.parts.items
