use Rattle.tv_ring.specs.Whole.{wholes}
use Rattle.tv_ring.specs.Sums.{at}
use Rattle.tv_class_integers.specs.Differences.{AgreeBelow}
use Rattle.tv_class_integers.proofs.differences.first_difference.Given as goal

abbrev pub invariant-loop-weight : goal.invariant-loop-weight
invariant-loop-weight l = AgreeBelow l.base (at wholes l.series) (at wholes l.product) l.weight
