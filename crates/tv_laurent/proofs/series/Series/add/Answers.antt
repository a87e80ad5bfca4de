use Rattle.std.proofs.Common.{◌≡◌, ◌∙◌, length, arith, ap, to_z, of_z, w64, refl}
use Rattle.std.specs.Int.{int_min}
use Rattle.std.proofs.lemmas.Int.{ints, clamps}
use Rattle.std.proofs.lemmas.Result.{err_from_is_err_and}
use Rattle.tv_laws_series.specs.Terms.{terms, above}
use Rattle.tv_laws_series.specs.Series.{series_sum}
use Rattle.tv_laws_series.proofs.Exponents.{above_is}
use Rattle.tv_laurent.proofs.SeriesCalls.{same_series}
use Rattle.tv_laurent.proofs.SeriesResults.{sum_result, sum_wide_result, sum_is_series}
use Rattle.tv_laurent.proofs.series.Series.add.Goals as goal

pub sums-requires-clause-low : goal.sums-requires-clause-low
sums-requires-clause-low g c = let la = c.self.invariant.bounded.low in let lb = c.other.invariant.bounded.low in omega (arith, ints, clamps)

pub sums-requires-clause-count : goal.sums-requires-clause-count
sums-requires-clause-count g c =
    let a = c.self.inside in let b = c.other.inside in
    let la = c.self.invariant.bounded.low in let lb = c.other.invariant.bounded.low in let ua = c.self.invariant.bounded.upto in
    let n = c.min-count.ensures in let m = int_min a.low b.low in
    let e : to_z w64 (of_z w64 c.min-low.result) ≡ m = omega (arith, ints, clamps) in
    let k : to_z w64 (of_z w64 a.low) ≡ a.low = omega (arith, ints) in
    let d : c.places-before.result ≡ above m a.low = c.places-before.ensures.value ∙ rw (e, k) refl in
    let o = above_is m a.low in let xs = ap length c.deref.ensures.value in
    omega (arith, ints, clamps)

pub returns-in_err-coefficients-clause-wide : goal.returns-in_err-coefficients-clause-wide
returns-in_err-coefficients-clause-wide g c =
    let a = terms c.self.inside.low c.self.inside.coefficients.items in let b = terms c.other.inside.low c.other.inside.coefficients.items in
    let la = c.self.invariant.bounded.low in let lb = c.other.invariant.bounded.low in let n = c.min-count.ensures in let m = int_min a.low b.low in
    let e : to_z w64 (of_z w64 c.min-low.result) ≡ m = omega (arith, ints, clamps) in
    let k : to_z w64 (of_z w64 a.low) ≡ a.low = omega (arith, ints) in let k' : to_z w64 (of_z w64 b.low) ≡ b.low = omega (arith, ints) in
    let d : c.places-before.result ≡ above m a.low = c.places-before.ensures.value ∙ rw (e, k) refl in let d' : c.places-before_other.result ≡ above m b.low = c.places-before_other.ensures.value ∙ rw (e, k') refl in
    let xs = ap length c.deref.ensures.value in let ys = ap length c.deref-2.ensures.value in
    let p = err_from_is_err_and c.from_residual.result c.from_residual.ensures.1 in
    rw (p.1, p.2, ← c.self.view_is, ← c.other.view_is) (sum_wide_result g.C.Ring.ring a b _ _ _ _ _ _ c.in_err-coefficients.field-0.0 c.deref.ensures.value c.deref-2.ensures.value e d d' (omega arith) c.in_err-coefficients.ensures.wide)

pub invariant_of-result : goal.invariant_of-result
invariant_of-result g c =
    let a = terms c.self.inside.low c.self.inside.coefficients.items in let b = terms c.other.inside.low c.other.inside.coefficients.items in
    let la = c.self.invariant.bounded.low in let lb = c.other.invariant.bounded.low in let n = c.min-count.ensures in let m = int_min a.low b.low in
    let e : to_z w64 (of_z w64 c.min-low.result) ≡ m = omega (arith, ints, clamps) in
    let k : to_z w64 (of_z w64 a.low) ≡ a.low = omega (arith, ints) in let k' : to_z w64 (of_z w64 b.low) ≡ b.low = omega (arith, ints) in
    let d : c.places-before.result ≡ above m a.low = c.places-before.ensures.value ∙ rw (e, k) refl in let d' : c.places-before_other.result ≡ above m b.low = c.places-before_other.ensures.value ∙ rw (e, k') refl in
    let xs = ap length c.deref.ensures.value in let ys = ap length c.deref-2.ensures.value in
    same_series _ (series_sum g.C.Ring.ring a b)
    (sum_result g.C.Ring.ring a b _ _ _ _ _ _ _ c.deref.ensures.value c.deref-2.ensures.value e d d' (omega arith) c.in_ok-coefficients.ensures.value)
    (sum_is_series g.met.C.Ring.laws a b c.self.invariant c.other.invariant)

pub returns-clause-value : goal.returns-clause-value
returns-clause-value g c =
    let a = terms c.self.inside.low c.self.inside.coefficients.items in let b = terms c.other.inside.low c.other.inside.coefficients.items in
    let la = c.self.invariant.bounded.low in let lb = c.other.invariant.bounded.low in let n = c.min-count.ensures in let m = int_min a.low b.low in
    let e : to_z w64 (of_z w64 c.min-low.result) ≡ m = omega (arith, ints, clamps) in
    let k : to_z w64 (of_z w64 a.low) ≡ a.low = omega (arith, ints) in let k' : to_z w64 (of_z w64 b.low) ≡ b.low = omega (arith, ints) in
    let d : c.places-before.result ≡ above m a.low = c.places-before.ensures.value ∙ rw (e, k) refl in let d' : c.places-before_other.result ≡ above m b.low = c.places-before_other.ensures.value ∙ rw (e, k') refl in
    let xs = ap length c.deref.ensures.value in let ys = ap length c.deref-2.ensures.value in
    rw (← c.self.view_is, ← c.other.view_is)
    (sum_result g.C.Ring.ring a b _ _ _ _ _ _ _ c.deref.ensures.value c.deref-2.ensures.value e d d' (omega arith) c.in_ok-coefficients.ensures.value)

pub overflow_add-before : goal.overflow_add-before
overflow_add-before g c = let ok = c.self.inside.coefficients.ok in let la = c.self.invariant.bounded.low in let ua = c.self.invariant.bounded.upto in let d = c.places-before.ensures.small in omega (arith, ints)

pub overflow_add-before_other : goal.overflow_add-before_other
overflow_add-before_other g c = let ok = c.other.inside.coefficients.ok in let la = c.other.invariant.bounded.low in let ua = c.other.invariant.bounded.upto in let d = c.places-before_other.ensures.small in omega (arith, ints)
