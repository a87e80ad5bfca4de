use Rattle.std.proofs.Common.{◌-◌}
use Rattle.tv_extras.specs.Sized.{IsSizedSame}
use Rattle.tv_extras.proofs.sized.SizedSets.advance.Given as goal

abbrev pub invariant-loop-self : goal.invariant-loop-self
invariant-loop-self l = IsSizedSame l.initial.self l.self

abbrev pub decreases-loop-self : goal.decreases-loop-self
decreases-loop-self l = l.self.last - l.self.size
