use Rattle.std.proofs.Common.{length}
use Rattle.tv_ring.specs.Whole.{wholes}
use Rattle.tv_ring.specs.Sums.{at}
use Rattle.tv_class_integers.proofs.Readings.{IsReadTo}
use Rattle.tv_class_integers.proofs.reading.read.Given as goal

abbrev pub invariant-loop-weight : goal.invariant-loop-weight
invariant-loop-weight l =
    IsReadTo l.base (at wholes l.series) (at wholes l.product) (length l.product) l.weight l.values.items l.powers.items
