use Rattle.std.proofs.Common.{length, arith, ap}
use Rattle.std.proofs.lemmas.Int.{ints}
use Rattle.std.proofs.lemmas.Result.{err_from_is_err_and}
use Rattle.tv_laws_series.specs.Terms.{terms}
use Rattle.tv_laws_series.specs.Quotients.{series_quotient}
use Rattle.tv_laurent.proofs.SeriesCalls.{same_series}
use Rattle.tv_laurent.proofs.SeriesResults.{quotient_result, quotient_wide_result, quotient_reaches, quotient_is_series}
use Rattle.tv_laurent.proofs.series.Series.div_unit.Goals as goal

pub quotients-requires-clause-reaches : goal.quotients-requires-clause-reaches
quotients-requires-clause-reaches g c =
    let a = terms c.self.inside.low c.self.inside.coefficients.items in let b = terms c.by.inside.low c.by.inside.coefficients.items in
    let n = c.min-count.ensures in let xs = ap length c.deref.ensures.value in let ys = ap length c.deref-2.ensures.value in
    quotient_reaches g.C.Ring.ring a b _ _ _ c.deref.ensures.value c.deref-2.ensures.value (omega arith) (rw (← c.self.view_is, ← c.by.view_is) at c.requires.reaches)

pub returns-in_err-coefficients-clause-wide : goal.returns-in_err-coefficients-clause-wide
returns-in_err-coefficients-clause-wide g c =
    let a = terms c.self.inside.low c.self.inside.coefficients.items in let b = terms c.by.inside.low c.by.inside.coefficients.items in
    let low = c.self.invariant.bounded.low in let n = c.min-count.ensures in let xs = ap length c.deref.ensures.value in let ys = ap length c.deref-2.ensures.value in
    let p = err_from_is_err_and c.from_residual.result c.from_residual.ensures.1 in
    rw (p.1, p.2, ← c.self.view_is, ← c.by.view_is) (quotient_wide_result g.C.Ring.ring a b _ _ _ _ c.in_err-coefficients.field-0.0 c.deref.ensures.value c.deref-2.ensures.value (omega (arith, ints)) (omega arith) c.in_err-coefficients.ensures.wide)

pub invariant_of-result : goal.invariant_of-result
invariant_of-result g c =
    let a = terms c.self.inside.low c.self.inside.coefficients.items in let b = terms c.by.inside.low c.by.inside.coefficients.items in
    let low = c.self.invariant.bounded.low in let n = c.min-count.ensures in let xs = ap length c.deref.ensures.value in let ys = ap length c.deref-2.ensures.value in
    same_series _ (series_quotient g.C.Ring.ring a b)
    (quotient_result g.C.Ring.ring a b _ _ _ _ _ c.deref.ensures.value c.deref-2.ensures.value (omega (arith, ints)) (omega arith) c.in_ok-coefficients.ensures.value)
    (quotient_is_series g.met.C.Ring.laws a b (rw (← c.by.view_is) at c.requires.unit) c.self.invariant c.by.invariant)

pub returns-clause-value : goal.returns-clause-value
returns-clause-value g c =
    let a = terms c.self.inside.low c.self.inside.coefficients.items in let b = terms c.by.inside.low c.by.inside.coefficients.items in
    let low = c.self.invariant.bounded.low in let n = c.min-count.ensures in let xs = ap length c.deref.ensures.value in let ys = ap length c.deref-2.ensures.value in
    rw (← c.self.view_is, ← c.by.view_is) (quotient_result g.C.Ring.ring a b _ _ _ _ _ c.deref.ensures.value c.deref-2.ensures.value (omega (arith, ints)) (omega arith) c.in_ok-coefficients.ensures.value)
