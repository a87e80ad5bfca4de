use Rattle.std.proofs.Common.{length, ap, arith, refl}
use Rattle.std.proofs.lemmas.Int.{ints}
use Rattle.tv_laws_series.specs.Terms.{terms}
use Rattle.tv_laurent.proofs.PolyResults.{negative_row, length_is}
use Rattle.tv_laurent.proofs.poly.LPolyRing.neg.Goals as goal

pub normal-requires-clause-values : goal.normal-requires-clause-values
normal-requires-clause-values g c =
    let a = terms c.self.inside.low c.self.inside.coefficients.items in let low = c.self.invariant.bounded.low in
    let row = negative_row g.met.C.Ring.laws g.met.C.Ring.sizes a a.low _ c.in_ok-coefficients.coefficients.items c.self.invariant c.deref.ensures.value refl c.in_ok-coefficients.ensures.value in
    row.values

pub normal-requires-clause-low : goal.normal-requires-clause-low
normal-requires-clause-low g c =
    let low = c.self.invariant.bounded.low in omega (arith, ints)

pub normal-requires-clause-count : goal.normal-requires-clause-count
normal-requires-clause-count g c =
    let low = c.self.invariant.bounded.low in let last = c.self.invariant.bounded.upto in let xs = ap length c.deref.ensures.value in let l = length_is _ _ _ c.in_ok-coefficients.ensures.value in omega (arith, ints)

pub normal-requires-clause-reach : goal.normal-requires-clause-reach
normal-requires-clause-reach g c =
    let a = terms c.self.inside.low c.self.inside.coefficients.items in let low = c.self.invariant.bounded.low in
    let row = negative_row g.met.C.Ring.laws g.met.C.Ring.sizes a _ _ c.in_ok-coefficients.coefficients.items c.self.invariant c.deref.ensures.value (omega (arith, ints)) c.in_ok-coefficients.ensures.value in
    row.reach

pub returns : goal.returns
returns g c =
    let a = terms c.self.inside.low c.self.inside.coefficients.items in let low = c.self.invariant.bounded.low in
    let row = negative_row g.met.C.Ring.laws g.met.C.Ring.sizes a _ _ c.in_ok-coefficients.coefficients.items c.self.invariant c.deref.ensures.value (omega (arith, ints)) c.in_ok-coefficients.ensures.value in
    record { value = rw (← c.self.view_is, ← row.same) c.normal.ensures.value; never_wide = c.normal.ensures.never_wide }
