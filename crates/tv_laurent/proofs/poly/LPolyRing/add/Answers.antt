use Rattle.std.proofs.Common.{◌≡◌, ◌∙◌, length, arith, ap, to_z, of_z, w64, refl}
use Rattle.std.specs.Int.{int_min}
use Rattle.std.proofs.lemmas.Int.{ints, clamps}
use Rattle.tv_laws_series.specs.Terms.{terms, above}
use Rattle.tv_laws_series.proofs.Exponents.{above_is}
use Rattle.tv_laws_series.proofs.PolyRing.{poly_laws}
use Rattle.tv_laurent.proofs.PolyResults.{sum-zero, sum_row, sum_fault, length_is}
use Rattle.tv_laurent.proofs.poly.LPolyRing.add.Goals as goal

pub returns-then-len-eq0-clause-value : goal.returns-then-len-eq0-clause-value
returns-then-len-eq0-clause-value g c =
    let a = terms c.self.inside.low c.self.inside.coefficients.items in let b = terms c.other.inside.low c.other.inside.coefficients.items in
    let laws = g.met.C.Ring.laws in let none : length b.coefficients ≡ 0 = omega arith in
    let e = sum-zero laws a b c.self.invariant.normal_form c.other.invariant.normal_form none in
    rw (← c.self.view_is, ← c.other.view_is, e) (rw (← c.self.view_is) at c.copy.ensures.value)

pub returns-then-len-eq0-2-clause-value : goal.returns-then-len-eq0-2-clause-value
returns-then-len-eq0-2-clause-value g c =
    let a = terms c.self.inside.low c.self.inside.coefficients.items in let b = terms c.other.inside.low c.other.inside.coefficients.items in
    let laws = g.met.C.Ring.laws in let none : length a.coefficients ≡ 0 = omega arith in
    let na = c.self.invariant.normal_form in let nb = c.other.invariant.normal_form in
    let e = (poly_laws laws).add_comm a b na nb ∙ sum-zero laws b a nb na none in
    rw (← c.self.view_is, ← c.other.view_is, e) (rw (← c.other.view_is) at c.copy-then-len-eq0-2.ensures.value)

pub sums-requires-clause-low : goal.sums-requires-clause-low
sums-requires-clause-low g c =
    let la = c.self.invariant.bounded.low in let lb = c.other.invariant.bounded.low in omega (arith, ints, clamps)

pub sums-requires-clause-count : goal.sums-requires-clause-count
sums-requires-clause-count g c =
    let a = terms c.self.inside.low c.self.inside.coefficients.items in let b = terms c.other.inside.low c.other.inside.coefficients.items in
    let la = c.self.invariant.bounded.low in let lb = c.other.invariant.bounded.low in let n = c.max-count.ensures in let m = int_min a.low b.low in
    let e : to_z w64 (of_z w64 c.min-low.result) ≡ m = omega (arith, ints, clamps) in
    let k : to_z w64 (of_z w64 a.low) ≡ a.low = omega (arith, ints) in let k' : to_z w64 (of_z w64 b.low) ≡ b.low = omega (arith, ints) in
    let d : c.places-before.result ≡ above m a.low = c.places-before.ensures.value ∙ rw (e, k) refl in let d' : c.places-before_other.result ≡ above m b.low = c.places-before_other.ensures.value ∙ rw (e, k') refl in
    let xs = ap length c.deref.ensures.value in let ys = ap length c.deref-2.ensures.value in
    let ua = c.self.invariant.bounded.upto in let ub = c.other.invariant.bounded.upto in let o = above_is m a.low in let o' = above_is m b.low in
    omega (arith, ints, clamps)

pub normal-requires-clause-values : goal.normal-requires-clause-values
normal-requires-clause-values g c =
    let a = terms c.self.inside.low c.self.inside.coefficients.items in let b = terms c.other.inside.low c.other.inside.coefficients.items in
    let la = c.self.invariant.bounded.low in let lb = c.other.invariant.bounded.low in let n = c.max-count.ensures in let m = int_min a.low b.low in
    let e : to_z w64 (of_z w64 c.min-low.result) ≡ m = omega (arith, ints, clamps) in
    let k : to_z w64 (of_z w64 a.low) ≡ a.low = omega (arith, ints) in let k' : to_z w64 (of_z w64 b.low) ≡ b.low = omega (arith, ints) in
    let d : c.places-before.result ≡ above m a.low = c.places-before.ensures.value ∙ rw (e, k) refl in let d' : c.places-before_other.result ≡ above m b.low = c.places-before_other.ensures.value ∙ rw (e, k') refl in
    let xs = ap length c.deref.ensures.value in let ys = ap length c.deref-2.ensures.value in
    let row = sum_row g.met.C.Ring.laws g.met.C.Ring.sizes a b _ _ _ _ _ _ c.in-Ok.coefficients.items c.self.invariant c.other.invariant c.deref.ensures.value c.deref-2.ensures.value e d d' (omega arith) c.in-Ok.ensures.value in
    row.values

pub normal-requires-clause-low : goal.normal-requires-clause-low
normal-requires-clause-low g c =
    let la = c.self.invariant.bounded.low in let lb = c.other.invariant.bounded.low in omega (arith, ints, clamps)

pub normal-requires-clause-count : goal.normal-requires-clause-count
normal-requires-clause-count g c =
    let a = terms c.self.inside.low c.self.inside.coefficients.items in let b = terms c.other.inside.low c.other.inside.coefficients.items in
    let la = c.self.invariant.bounded.low in let lb = c.other.invariant.bounded.low in let n = c.max-count.ensures in let m = int_min a.low b.low in
    let e : to_z w64 (of_z w64 c.min-low.result) ≡ m = omega (arith, ints, clamps) in
    let k : to_z w64 (of_z w64 a.low) ≡ a.low = omega (arith, ints) in let k' : to_z w64 (of_z w64 b.low) ≡ b.low = omega (arith, ints) in
    let d : c.places-before.result ≡ above m a.low = c.places-before.ensures.value ∙ rw (e, k) refl in let d' : c.places-before_other.result ≡ above m b.low = c.places-before_other.ensures.value ∙ rw (e, k') refl in
    let xs = ap length c.deref.ensures.value in let ys = ap length c.deref-2.ensures.value in
    let ua = c.self.invariant.bounded.upto in let ub = c.other.invariant.bounded.upto in let o = above_is m a.low in let o' = above_is m b.low in
    let l = length_is _ _ _ c.in-Ok.ensures.value in omega (arith, ints, clamps)

pub normal-requires-clause-reach : goal.normal-requires-clause-reach
normal-requires-clause-reach g c =
    let a = terms c.self.inside.low c.self.inside.coefficients.items in let b = terms c.other.inside.low c.other.inside.coefficients.items in
    let la = c.self.invariant.bounded.low in let lb = c.other.invariant.bounded.low in let n = c.max-count.ensures in let m = int_min a.low b.low in
    let e : to_z w64 (of_z w64 c.min-low.result) ≡ m = omega (arith, ints, clamps) in
    let k : to_z w64 (of_z w64 a.low) ≡ a.low = omega (arith, ints) in let k' : to_z w64 (of_z w64 b.low) ≡ b.low = omega (arith, ints) in
    let d : c.places-before.result ≡ above m a.low = c.places-before.ensures.value ∙ rw (e, k) refl in let d' : c.places-before_other.result ≡ above m b.low = c.places-before_other.ensures.value ∙ rw (e, k') refl in
    let xs = ap length c.deref.ensures.value in let ys = ap length c.deref-2.ensures.value in
    let row = sum_row g.met.C.Ring.laws g.met.C.Ring.sizes a b _ _ _ _ _ _ c.in-Ok.coefficients.items c.self.invariant c.other.invariant c.deref.ensures.value c.deref-2.ensures.value e d d' (omega arith) c.in-Ok.ensures.value in
    row.reach

pub returns-in-Ok-clause-value : goal.returns-in-Ok-clause-value
returns-in-Ok-clause-value g c =
    let a = terms c.self.inside.low c.self.inside.coefficients.items in let b = terms c.other.inside.low c.other.inside.coefficients.items in
    let la = c.self.invariant.bounded.low in let lb = c.other.invariant.bounded.low in let n = c.max-count.ensures in let m = int_min a.low b.low in
    let e : to_z w64 (of_z w64 c.min-low.result) ≡ m = omega (arith, ints, clamps) in
    let k : to_z w64 (of_z w64 a.low) ≡ a.low = omega (arith, ints) in let k' : to_z w64 (of_z w64 b.low) ≡ b.low = omega (arith, ints) in
    let d : c.places-before.result ≡ above m a.low = c.places-before.ensures.value ∙ rw (e, k) refl in let d' : c.places-before_other.result ≡ above m b.low = c.places-before_other.ensures.value ∙ rw (e, k') refl in
    let xs = ap length c.deref.ensures.value in let ys = ap length c.deref-2.ensures.value in
    let row = sum_row g.met.C.Ring.laws g.met.C.Ring.sizes a b _ _ _ _ _ _ c.in-Ok.coefficients.items c.self.invariant c.other.invariant c.deref.ensures.value c.deref-2.ensures.value e d d' (omega arith) c.in-Ok.ensures.value in
    rw (← c.self.view_is, ← c.other.view_is, ← row.same) c.normal.ensures.value

pub returns-in-Err-clause-wide : goal.returns-in-Err-clause-wide
returns-in-Err-clause-wide g c =
    let a = terms c.self.inside.low c.self.inside.coefficients.items in let b = terms c.other.inside.low c.other.inside.coefficients.items in
    rw (← c.self.view_is, ← c.other.view_is) (λ h. sum_fault g.met.C.Ring.laws g.met.C.Ring.sizes a b _ _ _ _ _ _ c.in-Err.fault c.without_exponent.result c.deref.ensures.value c.deref-2.ensures.value c.without_exponent.ensures.value c.in-Err.ensures.wide h)
