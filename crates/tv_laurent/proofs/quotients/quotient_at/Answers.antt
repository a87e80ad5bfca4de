use Rattle.std.proofs.Common.{◌∙◌, ap, arith}
use Rattle.std.proofs.lemmas.Result.{err_from_is_err_and}
use Rattle.tv_laurent.proofs.Divided.{owed-found, size-found, difference_wide}
use Rattle.tv_laurent.proofs.quotients.quotient_at.Goals as goal

pub returns-in_err-owed-clause-wide : goal.returns-in_err-owed-clause-wide
returns-in_err-owed-clause-wide g c =
    let s = size-found g.met.C.Ring.laws g.met.C.Ring.sizes c.args.found.now c.args.divisor.now in
    let p = err_from_is_err_and c.from_residual.result c.from_residual.ensures.1 in
    rw (p.1, p.2) (λ e. let wide = c.in_err-owed.ensures.wide e in omega arith)

pub returns-clause-value : goal.returns-clause-value
returns-clause-value g c =
    let o = owed-found g.met.C.Ring.laws g.met.C.Ring.sizes c.args.found.now c.args.divisor.now c.requires.divisor c.requires.found in
    rw (← o, ← c.in_ok-owed.ensures.value, ← c.in_ok-neg.ensures.value) c.add.ensures.value

pub returns-clause-wide : goal.returns-clause-wide
returns-clause-wide g c e =
    let o = owed-found g.met.C.Ring.laws g.met.C.Ring.sizes c.args.found.now c.args.divisor.now c.requires.divisor c.requires.found in
    difference_wide g.met.C.Ring.laws g.met.C.Ring.sizes c.args.dividend.now c.in_ok-neg.field-0 c.args.found.now c.args.divisor.now c.requires.found c.requires.divisor
    (c.in_ok-neg.ensures.value ∙ ap g.C.Ring.ring.neg (c.in_ok-owed.ensures.value ∙ o)) (c.add.ensures.wide e)
