use Rattle.std.proofs.Common.{◌∙◌, ◌-◌, sym, arith}
use Rattle.tv_ring.specs.Sums.{at}
use Rattle.tv_laws_series.proofs.Listed.{at_past, read_at}
use Rattle.tv_laws_series.proofs.Padded.{padded_before, padded_after}
use Rattle.tv_laurent.proofs.sums.placed.Goals as goal

pub returns-then-place-before : goal.returns-then-place-before
returns-then-place-before g c = record { value = padded_before g.C.Ring.ring _ _ _ c.if-place-before.true }

pub returns-then-place-before-2 : goal.returns-then-place-before-2
returns-then-place-before-2 g c =
    let r = g.C.Ring.ring in let row = c.args.row.now in let k = c.args.place - c.args.before in
    record { value = read_at r row k k c.index-row-place.result c.index-row-place.is (omega arith) (omega arith) ∙ sym (padded_after r c.args.before (at r row) c.args.place (omega arith)) }

pub returns-else-place-before-2 : goal.returns-else-place-before-2
returns-else-place-before-2 g c =
    let r = g.C.Ring.ring in let row = c.args.row.now in
    record { value = padded_after r c.args.before (at r row) c.args.place (omega arith) ∙ at_past r row (c.args.place - c.args.before) (omega arith) }
