use Rattle.std.proofs.Common.{arith}
use Rattle.std.proofs.lemmas.Int.{ints}
use Rattle.tv_laws_series.specs.Terms.{terms}
use Rattle.tv_laws_series.specs.Series.{series_scale}
use Rattle.tv_laurent.proofs.SeriesCalls.{same_series}
use Rattle.tv_laurent.proofs.SeriesResults.{scale_result, scale_is_series}
use Rattle.tv_laurent.proofs.series.Series.scale.Goals as goal

pub invariant_of-result : goal.invariant_of-result
invariant_of-result g c =
    let a = terms c.self.inside.low c.self.inside.coefficients.items in let low = c.self.invariant.bounded.low in
    same_series _ (series_scale g.C.Ring.ring c.args.factor.now a)
    (scale_result g.C.Ring.ring c.args.factor.now a _ _ _ c.deref.ensures.value (omega (arith, ints)) c.in_ok-coefficients.ensures.value)
    (scale_is_series g.met.C.Ring.laws c.args.factor.now a c.known.ensures.value c.self.invariant)
