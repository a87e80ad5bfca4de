use Rattle.std.proofs.Common.{length}
use Rattle.tv_outside.specs.Seen.{Seen}
use Rattle.tv_top.specs.Listings.{Finishes}
use Rattle.tv_answers.specs.declared.status.Status.{Status}
use Rattle.tv_top.proofs.pieces.tell_all.Given as goal

abbrev pub invariant-pieces : goal.invariant-pieces
invariant-pieces g l = (after : Seen) (r : Status) → Finishes l.web l.lister (record { before = g.K.Sink.seen l.sink; after = after }) r
    → Finishes l.web l.initial.lister (record { before = g.K.Sink.seen l.initial.sink; after = after }) r

abbrev pub decreases-pieces : goal.decreases-pieces
decreases-pieces g l = length l.lister
