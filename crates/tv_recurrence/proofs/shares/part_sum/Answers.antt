use Rattle.std.proofs.lemmas.Result.{err_from_is_err_and}
use Rattle.tv_recurrence.specs.Parts.{share, share_size}
use Rattle.tv_recurrence.proofs.PartialSums.{partial-more, wide-sum}
use Rattle.tv_recurrence.proofs.ShareSizes.{share-size}
use Rattle.tv_recurrence.proofs.shares.part_sum.Goals as goal

pub returns-in_err-sum-clause-wide : goal.returns-in_err-sum-clause-wide
returns-in_err-sum-clause-wide c =
    let x = c.args.part.now in let t = c.args.weight in let power = c.power-item.result in
    let same = c.powers-power-items.ensures.value in
    let p = err_from_is_err_and c.from_residual-in_err-sum.result c.from_residual-in_err-sum.ensures.1 in
    rw (p.1, p.2) (λ e. wide-sum (share x t) (share_size x t) x.powers c.loop-power.power-index power
    c.loop-power.sum c.in_ok-added.field-0
    c.loop-power.invariant (rw same at c.power-item.is) (rw same at c.loop-power-test.true)
    (rw c.in_ok-added.ensures.value (share-size x t power))
    (c.in_err-sum.ensures.wide.0 e))

pub loop-power-preserved : goal.loop-power-preserved
loop-power-preserved c =
    let x = c.args.part.now in let t = c.args.weight in let power = c.power-item.result in
    let same = c.powers-power-items.ensures.value in
    partial-more (share x t) (share_size x t) x.powers c.loop-power.power-index power
    c.loop-power.sum c.in_ok-added.field-0 c.in_ok-sum.sum
    c.loop-power.invariant (rw same at c.power-item.is) (rw same at c.loop-power-test.true) c.in_ok-added.ensures.value
    (rw c.in_ok-added.ensures.value (share-size x t power))
    c.in_ok-sum.ensures.value
