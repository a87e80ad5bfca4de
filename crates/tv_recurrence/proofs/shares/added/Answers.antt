use Rattle.std.proofs.Common.{refl, ap, ◌∙◌, ◌≡◌, pos, neg_ℤ, ◌*ℤ◌}
use Rattle.std.specs.Int.{w128, cast_unsigned}
use Rattle.std.proofs.lemmas.Result.{err_from_is_err_and}
use Rattle.tv_recurrence.specs.Parts.{taken_sum}
use Rattle.tv_recurrence.proofs.ShareSizes.{wide-scale, wide-share}
use Rattle.tv_recurrence.proofs.shares.added.Goals as goal

pub returns-in_err-mul-clause-wide : goal.returns-in_err-mul-clause-wide
returns-in_err-mul-clause-wide c =
    let x = c.args.part.now in let f = c.args.power.now in
    let degree = c.whole-2.ensures.value ∙ ap pos c.degree-2.ensures.value in
    let sum : c.in_ok-sum.sum ≡ taken_sum x.rows f.step c.args.weight = rw (← c.rows.ensures.value) c.in_ok-sum.ensures.value in
    let p = err_from_is_err_and c.from_residual-in_err-mul.result c.from_residual-in_err-mul.ensures.1 in
    rw (p.1, p.2) (λ e. wide-scale x c.args.weight f c.in_ok-sum.sum sum
    (λ none. c.if-get-eq0-2.false (ap (cast_unsigned w128) (c.get-2.ensures.value ∙ none)))
    (rw (← degree, ← c.in_ok-negative.ensures.value) (c.in_err-mul.ensures.wide.0 e)))

pub returns-clause-wide : goal.returns-clause-wide
returns-clause-wide c =
    let x = c.args.part.now in let f = c.args.power.now in
    let degree = c.whole-2.ensures.value ∙ ap pos c.degree-2.ensures.value in
    let sum : c.in_ok-sum.sum ≡ taken_sum x.rows f.step c.args.weight = rw (← c.rows.ensures.value) c.in_ok-sum.ensures.value in
    let scale : c.in_ok-mul.field-0 ≡ pos x.degree *ℤ neg_ℤ f.power =
    rw (← degree, ← c.in_ok-negative.ensures.value) c.in_ok-mul.ensures.value in
    λ e. wide-share x c.args.weight f (c.in_ok-mul.field-0 *ℤ c.in_ok-sum.sum) (rw (scale, sum) refl) (c.mul-2.ensures.wide.0 e)
