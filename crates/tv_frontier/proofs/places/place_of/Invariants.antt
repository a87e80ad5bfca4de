use Rattle.std.proofs.Common.{◌≡◌, false, take}
use Rattle.std.specs.List.{AllByRecursion}
use Rattle.tv_spec_boxes.specs.Assignments.{same_choice}
use Rattle.tv_frontier.proofs.places.place_of.Given as goal

abbrev pub invariant-loop-k : goal.invariant-loop-k
invariant-loop-k l = AllByRecursion (λ key. same_choice l.choice key ≡ false) (take l.k l.keys)
