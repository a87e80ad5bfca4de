use Rattle.std.proofs.Common.{arith}
use Rattle.std.proofs.lemmas.Int.{ints}
use Rattle.tv_laurent.proofs.poly.LPoly.span.Goals as goal

pub overflow_add-result : goal.overflow_add-result
overflow_add-result g c = let low = c.self.invariant.bounded.low in let last = c.self.invariant.bounded.upto in let ok = c.self.inside.coefficients.ok in omega (arith, ints)

pub overflow_sub-result : goal.overflow_sub-result
overflow_sub-result g c = let low = c.self.invariant.bounded.low in let last = c.self.invariant.bounded.upto in let ok = c.self.inside.coefficients.ok in omega (arith, ints)

pub returns-else-len-eq0 : goal.returns-else-len-eq0
returns-else-len-eq0 g c =
    let low = c.self.invariant.bounded.low in let last = c.self.invariant.bounded.upto in let ok = c.self.inside.coefficients.ok in
    record { told = rw (← c.self.view_is) (omega arith, omega (arith, ints), omega (arith, ints)) }
