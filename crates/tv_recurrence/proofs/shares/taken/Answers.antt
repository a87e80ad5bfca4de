use Rattle.std.proofs.Common.{◌-◌, ◌∙◌, arith, ap, sym, ◌+ℤ◌, ◌≡◌, pos}
use Rattle.std.proofs.lemmas.Int.{ints}
use Rattle.std.proofs.lemmas.Result.{err_from_is_err_and}
use Rattle.tv_ring.specs.Whole.{wholes}
use Rattle.tv_ring.specs.Sums.{at}
use Rattle.tv_laws_series.proofs.Listed.{at_read, at_past}
use Rattle.tv_recurrence.proofs.TakenSums.{taken-more, taken-wide}
use Rattle.tv_recurrence.proofs.shares.taken.Goals as goal
use Rattle.tv_recurrence.proofs.shares.taken.Goals.{then-left-row+in_ok-sum, else-left-row}

pub returns-in_err-sum-clause-wide : goal.returns-in_err-sum-clause-wide
returns-in_err-sum-clause-wide c =
    let k = c.loop-row.left - c.args.step in
    let row = c.row-item.result in
    let x = sym c.index-row-left.is ∙ at_read wholes row.now k c.index-row-left.result c.index-row-left.is c.if-left-row.true in
    let p = err_from_is_err_and c.from_residual.result c.from_residual.ensures.1 in
    rw (p.1, p.2) (λ e. taken-wide (λ r. r.now) c.args.rows.now c.args.step c.args.weight
    c.loop-row.row-index c.loop-row.left row c.loop-row.sum _ c.loop-row.invariant c.row-item.is c.loop-row-test.true c.if-left-step.false
    x (c.in_err-sum.ensures.wide.0 e))

pub loop-row-preserved : goal.loop-row-preserved
loop-row-preserved c =
    let k = c.loop-row.left - c.args.step in
    let row = c.row-item.result in
    let more = taken-more (λ r. r.now) c.args.rows.now c.args.step c.args.weight c.loop-row.row-index c.loop-row.left row
    c.loop-row.sum c.if-left-row.sum c.loop-row.invariant c.row-item.is c.loop-row-test.true c.if-left-step.false in
    more (elim c.if-left-row.branch [
      | then-left-row+in_ok-sum w ↦
          w.sum-is ∙ (w.in_ok-sum.ensures.value ∙
          ap (λ z. c.loop-row.sum +ℤ z) (sym w.index-row-left.is ∙
          at_read wholes row.now k w.index-row-left.result w.index-row-left.is w.if-left-row.true))
      | else-left-row w ↦
          let none : at wholes row.now k ≡ pos 0 = at_past wholes row.now k w.if-left-row.false in
          w.sum-is ∙ omega (arith, ints, none)
    ])
