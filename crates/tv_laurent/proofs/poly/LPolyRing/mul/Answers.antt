use Rattle.std.proofs.Common.{◌≤◌, ◌+◌, length, ◌+ℤ◌, arith, ap, refl}
use Rattle.std.proofs.lemmas.Int.{ints}
use Rattle.tv_ring.specs.Operations.{reach_limit}
use Rattle.tv_laws_series.specs.Terms.{terms}
use Rattle.tv_laws_series.specs.Polynomials.{poly_reach}
use Rattle.tv_laurent.proofs.PolyResults.{product_row, product_fault, product_low, product_count, product_reaches, length_is}
use Rattle.tv_laurent.proofs.poly.LPolyRing.mul.Goals as goal

pub overflow_add-low : goal.overflow_add-low
overflow_add-low g c =
    let a = terms c.self.inside.low c.self.inside.coefficients.items in let b = terms c.other.inside.low c.other.inside.coefficients.items in
    let laws = g.met.C.Ring.laws in let sizes = g.met.C.Ring.sizes in let la = c.self.invariant.bounded.low in let lb = c.other.invariant.bounded.low in
    let add : poly_reach g.C.Ring.ring a + poly_reach g.C.Ring.ring b ≤ reach_limit = rw (← c.self.view_is, ← c.other.view_is) at c.requires.reach in
    let low = product_low laws sizes a b c.self.invariant c.other.invariant add in
    omega (arith, ints)

pub products-requires-clause-reaches : goal.products-requires-clause-reaches
products-requires-clause-reaches g c =
    let a = terms c.self.inside.low c.self.inside.coefficients.items in let b = terms c.other.inside.low c.other.inside.coefficients.items in
    let laws = g.met.C.Ring.laws in let sizes = g.met.C.Ring.sizes in let la = c.self.invariant.bounded.low in let lb = c.other.invariant.bounded.low in
    let add : poly_reach g.C.Ring.ring a + poly_reach g.C.Ring.ring b ≤ reach_limit = rw (← c.self.view_is, ← c.other.view_is) at c.requires.reach in
    let low = product_low laws sizes a b c.self.invariant c.other.invariant add in
    product_reaches laws sizes a b _ _ c.deref.ensures.value c.deref-2.ensures.value c.self.invariant c.other.invariant add

pub products-requires-clause-low : goal.products-requires-clause-low
products-requires-clause-low g c =
    let a = terms c.self.inside.low c.self.inside.coefficients.items in let b = terms c.other.inside.low c.other.inside.coefficients.items in
    let laws = g.met.C.Ring.laws in let sizes = g.met.C.Ring.sizes in let la = c.self.invariant.bounded.low in let lb = c.other.invariant.bounded.low in
    let add : poly_reach g.C.Ring.ring a + poly_reach g.C.Ring.ring b ≤ reach_limit = rw (← c.self.view_is, ← c.other.view_is) at c.requires.reach in
    let low = product_low laws sizes a b c.self.invariant c.other.invariant add in
    omega (arith, ints)

pub products-requires-clause-count : goal.products-requires-clause-count
products-requires-clause-count g c =
    let a = terms c.self.inside.low c.self.inside.coefficients.items in let b = terms c.other.inside.low c.other.inside.coefficients.items in
    let laws = g.met.C.Ring.laws in let sizes = g.met.C.Ring.sizes in let la = c.self.invariant.bounded.low in let lb = c.other.invariant.bounded.low in
    let add : poly_reach g.C.Ring.ring a + poly_reach g.C.Ring.ring b ≤ reach_limit = rw (← c.self.view_is, ← c.other.view_is) at c.requires.reach in
    let low = product_low laws sizes a b c.self.invariant c.other.invariant add in
    let count = product_count laws sizes a b c.self.invariant c.other.invariant add in let n = c.saturating_sub-count.ensures in let ok = c.self.inside.coefficients.ok in let ok' = c.other.inside.coefficients.ok in omega arith

pub normal-requires-clause-values : goal.normal-requires-clause-values
normal-requires-clause-values g c =
    let a = terms c.self.inside.low c.self.inside.coefficients.items in let b = terms c.other.inside.low c.other.inside.coefficients.items in
    let laws = g.met.C.Ring.laws in let sizes = g.met.C.Ring.sizes in let la = c.self.invariant.bounded.low in let lb = c.other.invariant.bounded.low in
    let add : poly_reach g.C.Ring.ring a + poly_reach g.C.Ring.ring b ≤ reach_limit = rw (← c.self.view_is, ← c.other.view_is) at c.requires.reach in
    let low = product_low laws sizes a b c.self.invariant c.other.invariant add in
    let n = c.saturating_sub-count.ensures in let xs = ap length c.deref.ensures.value in let ys = ap length c.deref-2.ensures.value in
    let row = product_row laws sizes a b (a.low +ℤ b.low) _ _ _ c.in-Ok.coefficients.items c.self.invariant c.other.invariant add c.deref.ensures.value c.deref-2.ensures.value refl (omega arith) c.in-Ok.ensures.value in
    row.values

pub normal-requires-clause-low : goal.normal-requires-clause-low
normal-requires-clause-low g c =
    let a = terms c.self.inside.low c.self.inside.coefficients.items in let b = terms c.other.inside.low c.other.inside.coefficients.items in
    let laws = g.met.C.Ring.laws in let sizes = g.met.C.Ring.sizes in let la = c.self.invariant.bounded.low in let lb = c.other.invariant.bounded.low in
    let add : poly_reach g.C.Ring.ring a + poly_reach g.C.Ring.ring b ≤ reach_limit = rw (← c.self.view_is, ← c.other.view_is) at c.requires.reach in
    let low = product_low laws sizes a b c.self.invariant c.other.invariant add in
    omega (arith, ints)

pub normal-requires-clause-count : goal.normal-requires-clause-count
normal-requires-clause-count g c =
    let a = terms c.self.inside.low c.self.inside.coefficients.items in let b = terms c.other.inside.low c.other.inside.coefficients.items in
    let laws = g.met.C.Ring.laws in let sizes = g.met.C.Ring.sizes in let la = c.self.invariant.bounded.low in let lb = c.other.invariant.bounded.low in
    let add : poly_reach g.C.Ring.ring a + poly_reach g.C.Ring.ring b ≤ reach_limit = rw (← c.self.view_is, ← c.other.view_is) at c.requires.reach in
    let low = product_low laws sizes a b c.self.invariant c.other.invariant add in
    let count = product_count laws sizes a b c.self.invariant c.other.invariant add in let n = c.saturating_sub-count.ensures in let ok = c.self.inside.coefficients.ok in let ok' = c.other.inside.coefficients.ok in
    let l = length_is _ _ _ c.in-Ok.ensures.value in omega arith

pub normal-requires-clause-reach : goal.normal-requires-clause-reach
normal-requires-clause-reach g c =
    let a = terms c.self.inside.low c.self.inside.coefficients.items in let b = terms c.other.inside.low c.other.inside.coefficients.items in
    let laws = g.met.C.Ring.laws in let sizes = g.met.C.Ring.sizes in let la = c.self.invariant.bounded.low in let lb = c.other.invariant.bounded.low in
    let add : poly_reach g.C.Ring.ring a + poly_reach g.C.Ring.ring b ≤ reach_limit = rw (← c.self.view_is, ← c.other.view_is) at c.requires.reach in
    let low = product_low laws sizes a b c.self.invariant c.other.invariant add in
    let n = c.saturating_sub-count.ensures in let xs = ap length c.deref.ensures.value in let ys = ap length c.deref-2.ensures.value in
    let row = product_row laws sizes a b _ _ _ _ c.in-Ok.coefficients.items c.self.invariant c.other.invariant add c.deref.ensures.value c.deref-2.ensures.value (omega (arith, ints)) (omega arith) c.in-Ok.ensures.value in
    row.reach

pub returns-in-Ok-clause-value : goal.returns-in-Ok-clause-value
returns-in-Ok-clause-value g c =
    let a = terms c.self.inside.low c.self.inside.coefficients.items in let b = terms c.other.inside.low c.other.inside.coefficients.items in
    let laws = g.met.C.Ring.laws in let sizes = g.met.C.Ring.sizes in let la = c.self.invariant.bounded.low in let lb = c.other.invariant.bounded.low in
    let add : poly_reach g.C.Ring.ring a + poly_reach g.C.Ring.ring b ≤ reach_limit = rw (← c.self.view_is, ← c.other.view_is) at c.requires.reach in
    let low = product_low laws sizes a b c.self.invariant c.other.invariant add in
    let n = c.saturating_sub-count.ensures in let xs = ap length c.deref.ensures.value in let ys = ap length c.deref-2.ensures.value in
    let row = product_row laws sizes a b _ _ _ _ c.in-Ok.coefficients.items c.self.invariant c.other.invariant add c.deref.ensures.value c.deref-2.ensures.value (omega (arith, ints)) (omega arith) c.in-Ok.ensures.value in
    rw (← c.self.view_is, ← c.other.view_is, ← row.same) c.normal.ensures.value

pub returns-in-Err-clause-wide : goal.returns-in-Err-clause-wide
returns-in-Err-clause-wide g c =
    let a = terms c.self.inside.low c.self.inside.coefficients.items in let b = terms c.other.inside.low c.other.inside.coefficients.items in
    rw (← c.self.view_is, ← c.other.view_is) (λ h. product_fault g.met.C.Ring.laws g.met.C.Ring.sizes a b _ _ _ _ c.in-Err.fault c.without_exponent.result c.deref.ensures.value c.deref-2.ensures.value c.without_exponent.ensures.value c.in-Err.ensures.wide h)
