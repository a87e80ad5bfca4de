use Rattle.tv_vertex.proofs.Tallied.{one-if, zero-if}
use Rattle.tv_vertex.proofs.listing.one_if.Goals as goal

pub returns-then-is_so-clause-value : goal.returns-then-is_so-clause-value
returns-then-is_so-clause-value g c = rw (← one-if g.met.C.Ring.laws c.args.is_so c.if-is_so.true) c.one.ensures.value

pub returns-else-is_so-clause-value : goal.returns-else-is_so-clause-value
returns-else-is_so-clause-value g c = rw (← zero-if g.C.Ring.ring c.args.is_so c.if-is_so.false) c.zero.ensures.value
