use Rattle.std.proofs.Common.{◌≡◌, ap, subst, arith, w64, to_z, of_z}
use Rattle.std.specs.Prelude.{pos, ◌+ℤ◌, IfOk}
use Rattle.std.proofs.lemmas.Int.{ints}
use Rattle.tv_frontier.proofs.WithSigns.{signed-plus, signed-minus}
use Rattle.tv_frontier.proofs.signed.signed_at.Goals as goal

pub returns-then-sign_of-eq1-clause-value : goal.returns-then-sign_of-eq1-clause-value
returns-then-sign_of-eq1-clause-value g c =
    let low = c.requires.low in
    let at : to_z w64 (of_z w64 c.exponent_at-exponent.result) ≡ c.args.low +ℤ pos c.args.k = (let v = c.exponent_at-exponent.ensures.value in let b = c.exponent_at-exponent.ensures.bound in omega (arith, ints)) in
    signed-plus g.C.Ring.ring c.args.web.now.points c.args.class.now c.args.series.now c.args.low (to_z w64 (of_z w64 c.exponent_at-exponent.result)) c.sign_of.result c.args.k c.in_ok-x.x at c.sign_of.ensures (let f = c.if-sign_of-eq1.true in omega (arith, ints)) c.in_ok-x.ensures.value

pub returns-else-sign_of-eq1-clause-value : goal.returns-else-sign_of-eq1-clause-value
returns-else-sign_of-eq1-clause-value g c =
    let low = c.requires.low in
    let at : to_z w64 (of_z w64 c.exponent_at-exponent.result) ≡ c.args.low +ℤ pos c.args.k = (let v = c.exponent_at-exponent.ensures.value in let b = c.exponent_at-exponent.ensures.bound in omega (arith, ints)) in
    subst (λ y. IfOk c.neg.result (λ x. x ≡ y))
    (signed-minus g.C.Ring.ring c.args.web.now.points c.args.class.now c.args.series.now c.args.low (to_z w64 (of_z w64 c.exponent_at-exponent.result)) c.sign_of.result c.args.k (g.C.Ring.ring.neg c.in_ok-x.x) at c.sign_of.ensures (λ same. (let f = c.if-sign_of-eq1.false in omega (arith, ints))) (ap g.C.Ring.ring.neg c.in_ok-x.ensures.value))
    c.neg.ensures.value
