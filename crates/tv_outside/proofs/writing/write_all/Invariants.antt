use Rattle.std.proofs.Common.{◌-◌, length}
use Rattle.tv_outside.proofs.WriteSteps.{WritesSoFar}
use Rattle.tv_outside.proofs.writing.write_all.Given as goal

abbrev pub invariant-writes : goal.invariant-writes
invariant-writes g l =
    WritesSoFar (g.K.Sink.seen l.initial.sink) (g.K.Sink.seen l.sink) l.text l.done

abbrev pub decreases-writes : goal.decreases-writes
decreases-writes g l = length l.text - l.done
