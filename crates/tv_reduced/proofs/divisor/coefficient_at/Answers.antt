use Rattle.std.proofs.Common.{◌≡◌, ◌∙◌, pos, sym, to_z, of_z, w64, arith}
use Rattle.std.proofs.lemmas.Int.{ints}
use Rattle.tv_graded.proofs.Told.{coefficient_told}
use Rattle.tv_reduced.specs.Divisors.{counted}
use Rattle.tv_reduced.proofs.Divisors.{counted_is}
use Rattle.tv_reduced.proofs.Results.{given_ok}
use Rattle.tv_reduced.proofs.divisor.coefficient_at.Goals as goal

pub returns-in-Is-clause-value : goal.returns-in-Is-clause-value
returns-in-Is-clause-value g c =
    let r = g.C.Ring.ring in let s = c.args.series.now in let from = c.from.ensures in
    let place : to_z w64 (of_z w64 c.from.result) ≡ pos c.args.j = omega (arith, ints) in
    let here = coefficient_told r s (to_z w64 (of_z w64 c.from.result)) c.coefficient.result c.coefficient.ensures.told in
    let is : counted r s c.args.j ≡ c.in-Is.x.now = counted_is r s c.args.j ∙ (rw (place, c.in-Is.is) at here) in
    given_ok c.copy.result c.made.result (λ x. x ≡ c.in-Is.x.now) (λ x. x ≡ counted r s c.args.j) (λ x e. e ∙ sym is) c.copy.ensures.value c.made.ensures.value

pub returns-in-Zero-clause-value : goal.returns-in-Zero-clause-value
returns-in-Zero-clause-value g c =
    let r = g.C.Ring.ring in let s = c.args.series.now in let from = c.from.ensures in
    let place : to_z w64 (of_z w64 c.from.result) ≡ pos c.args.j = omega (arith, ints) in
    let here = coefficient_told r s (to_z w64 (of_z w64 c.from.result)) c.coefficient.result c.coefficient.ensures.told in
    let is : counted r s c.args.j ≡ r.nought = counted_is r s c.args.j ∙ (rw (place, c.in-Zero.is) at here) in
    given_ok c.zero.result c.made-in-Zero.result (λ x. x ≡ r.nought) (λ x. x ≡ counted r s c.args.j) (λ x e. e ∙ sym is) c.zero.ensures.value c.made-in-Zero.ensures.value
