use Rattle.std.proofs.Common.{◌∙◌, sym}
use Rattle.tv_ring.specs.Sums.{at}
use Rattle.tv_laws_series.proofs.Listed.{at_read, listed-none, listed_push}
use Rattle.tv_laws_series.proofs.PolyFrom.{negatives_is}
use Rattle.tv_laurent.proofs.poly.negatives_of.Goals as goal

pub loop-coefficient-init : goal.loop-coefficient-init
loop-coefficient-init g c = c.in_ok-negatives.ensures.items ∙ sym (listed-none _)

pub loop-coefficient-preserved : goal.loop-coefficient-preserved
loop-coefficient-preserved g c =
    let r = g.C.Ring.ring in let k = c.loop-coefficient.coefficient-index in
    let x = at_read r c.args.row.now k c.coefficient-item.result c.coefficient-item.is c.loop-coefficient-test.true in
    listed_push _ k _ _ c.in_ok-neg.field-0 c.loop-coefficient.invariant c.in_ok-push.ensures.items (rw (negatives_is r (at r c.args.row.now) k, ← x) c.in_ok-neg.ensures.value)
