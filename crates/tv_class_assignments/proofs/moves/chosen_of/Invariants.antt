use Rattle.std.proofs.Common.{◌≡◌, map, take}
use Rattle.tv_class_assignments.specs.Walk.{chosen}
use Rattle.tv_class_assignments.proofs.moves.chosen_of.Given as goal

abbrev pub invariant-loop-frame : goal.invariant-loop-frame
invariant-loop-frame l = l.diagrams.items ≡ map chosen (take l.frame-index l.frames)
