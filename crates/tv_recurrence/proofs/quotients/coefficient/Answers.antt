use Rattle.std.proofs.lemmas.Result.{err_from_is_err_and}
use Rattle.tv_recurrence.specs.Parts.{part_total, part_size}
use Rattle.tv_recurrence.proofs.PartialSums.{partial-more, wide-sum}
use Rattle.tv_recurrence.proofs.ShareSizes.{part-size}
use Rattle.tv_recurrence.proofs.quotients.coefficient.Goals as goal

pub returns-in_err-sum-clause-wide : goal.returns-in_err-sum-clause-wide
returns-in_err-sum-clause-wide c =
    let t = c.args.weight in let part = c.part-item.result in
    let p = err_from_is_err_and c.from_residual-in_err-sum.result c.from_residual-in_err-sum.ensures.1 in
    rw (p.1, p.2) (λ e. wide-sum (part_total t) (part_size t) c.args.parts.now c.loop-part.part-index
    part c.loop-part.sum c.in_ok-part_sum.field-0
    c.loop-part.invariant c.part-item.is c.loop-part-test.true (rw c.in_ok-part_sum.ensures.value (part-size t part))
    (c.in_err-sum.ensures.wide.0 e))

pub loop-part-preserved : goal.loop-part-preserved
loop-part-preserved c =
    let t = c.args.weight in let part = c.part-item.result in
    partial-more (part_total t) (part_size t) c.args.parts.now c.loop-part.part-index
    part c.loop-part.sum c.in_ok-part_sum.field-0 c.in_ok-sum.sum
    c.loop-part.invariant c.part-item.is c.loop-part-test.true c.in_ok-part_sum.ensures.value
    (rw c.in_ok-part_sum.ensures.value (part-size t part))
    c.in_ok-sum.ensures.value
