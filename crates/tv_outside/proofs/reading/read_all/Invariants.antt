use Rattle.std.proofs.Common.{◌-◌}
use Rattle.std.specs.Prelude.{vec_len}
use Rattle.tv_outside.proofs.ReadSteps.{ReadsSoFar}
use Rattle.tv_outside.proofs.reading.read_all.Given as goal

abbrev pub invariant-reads : goal.invariant-reads
invariant-reads g l =
    ReadsSoFar (g.S.Source.seen l.initial.source) (g.S.Source.seen l.source) l.limit l.bytes.items

abbrev pub decreases-reads : goal.decreases-reads
decreases-reads g l = l.limit - vec_len l.bytes
