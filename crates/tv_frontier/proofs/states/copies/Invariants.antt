use Rattle.std.specs.Prelude.{◌≡◌, take}
use Rattle.tv_frontier.proofs.states.copies.Given as goal

abbrev pub invariant-loop-diagram : goal.invariant-loop-diagram
invariant-loop-diagram l = l.all.items ≡ take l.diagram-index l.diagrams
