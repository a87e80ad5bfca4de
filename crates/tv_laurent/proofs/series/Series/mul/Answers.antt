use Rattle.std.proofs.Common.{arith}
use Rattle.std.proofs.lemmas.Int.{ints}
use Rattle.std.proofs.lemmas.Result.{err_from_is_err_and}
use Rattle.tv_laws_series.specs.Terms.{terms}
use Rattle.tv_laws_series.specs.Series.{series_product}
use Rattle.tv_laurent.proofs.SeriesCalls.{same_series}
use Rattle.tv_laurent.proofs.SeriesResults.{product_result, product_wide_result, product_is_series, product_bounded}
use Rattle.tv_laurent.proofs.series.Series.mul.Goals as goal

pub returns-in_err-coefficients-clause-wide : goal.returns-in_err-coefficients-clause-wide
returns-in_err-coefficients-clause-wide g c =
    let a = terms c.self.inside.low c.self.inside.coefficients.items in let b = terms c.other.inside.low c.other.inside.coefficients.items in
    let bounded = rw (← c.self.view_is, ← c.other.view_is) at c.requires.low in let n = c.min-count.ensures in
    let p = err_from_is_err_and c.from_residual.result c.from_residual.ensures.1 in
    rw (p.1, p.2, ← c.self.view_is, ← c.other.view_is) (product_wide_result g.C.Ring.ring a b _ _ _ _ c.in_err-coefficients.field-0.0 c.deref.ensures.value c.deref-2.ensures.value (omega (arith, ints)) (omega arith) c.in_err-coefficients.ensures.wide)

pub invariant_of-result : goal.invariant_of-result
invariant_of-result g c =
    let a = terms c.self.inside.low c.self.inside.coefficients.items in let b = terms c.other.inside.low c.other.inside.coefficients.items in
    let low = rw (← c.self.view_is, ← c.other.view_is) at c.requires.low in let last = rw (← c.self.view_is, ← c.other.view_is) at c.requires.upto in
    let bounded = product_bounded g.met.C.Ring.laws a b low last in let n = c.min-count.ensures in
    same_series _ (series_product g.C.Ring.ring a b)
    (product_result g.C.Ring.ring a b _ _ _ _ _ c.deref.ensures.value c.deref-2.ensures.value (omega (arith, ints)) (omega arith) c.in_ok-coefficients.ensures.value)
    (product_is_series g.met.C.Ring.laws a b bounded c.self.invariant c.other.invariant)

pub returns-clause-value : goal.returns-clause-value
returns-clause-value g c =
    let a = terms c.self.inside.low c.self.inside.coefficients.items in let b = terms c.other.inside.low c.other.inside.coefficients.items in
    let bounded = rw (← c.self.view_is, ← c.other.view_is) at c.requires.low in let n = c.min-count.ensures in
    rw (← c.self.view_is, ← c.other.view_is) (product_result g.C.Ring.ring a b _ _ _ _ _ c.deref.ensures.value c.deref-2.ensures.value (omega (arith, ints)) (omega arith) c.in_ok-coefficients.ensures.value)
