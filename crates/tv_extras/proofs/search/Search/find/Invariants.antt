use Rattle.tv_extras.specs.Search.{IsSame, steps_left}
use Rattle.tv_extras.proofs.search.Search.find.Given as goal

abbrev pub invariant-loop : goal.invariant-loop
invariant-loop l = IsSame l.initial.self l.self

abbrev pub decreases-loop : goal.decreases-loop
decreases-loop l = steps_left l.self
