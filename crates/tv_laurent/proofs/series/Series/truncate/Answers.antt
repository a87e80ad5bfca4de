use Rattle.std.proofs.Common.{◌∙◌, pos, ◌+ℤ◌, arith, ap, take}
use Rattle.std.specs.Int.{int_min}
use Rattle.std.proofs.lemmas.Int.{ints, clamps}
use Rattle.tv_laws_series.specs.Terms.{terms, above}
use Rattle.tv_laws_series.specs.Series.{series_cut}
use Rattle.tv_laws_series.proofs.Exponents.{above_is}
use Rattle.tv_laws_series.proofs.SeriesFrom.{terms-same}
use Rattle.tv_laurent.proofs.SeriesCalls.{same_series, cut_is_series}
use Rattle.tv_laurent.proofs.series.Series.truncate.Goals as goal

pub invariant_of-self : goal.invariant_of-self
invariant_of-self g c =
    let a = c.self.inside in let n = c.args.upto in let within = c.requires.within in let o = above_is a.low (n +ℤ pos 1) in
    same_series _ (series_cut n (terms a.low a.coefficients.items))
    (terms-same _ (int_min a.low (n +ℤ pos 1)) _ (take (above a.low (n +ℤ pos 1)) a.coefficients.items) (omega (arith, ints, clamps)) (c.truncate.ensures.items ∙ ap (λ k. take k a.coefficients.items) (omega (arith, ints, clamps))))
    (cut_is_series g.met.C.Ring.laws n (terms a.low a.coefficients.items) c.requires.within c.self.invariant)

pub returns : goal.returns
returns g c =
    let a = c.self.inside in let n = c.args.upto in let within = c.requires.within in let o = above_is a.low (n +ℤ pos 1) in
    record { value = rw (← c.self.view_is) (terms-same _ (int_min a.low (n +ℤ pos 1)) _ (take (above a.low (n +ℤ pos 1)) a.coefficients.items) (omega (arith, ints, clamps)) (c.truncate.ensures.items ∙ ap (λ k. take k a.coefficients.items) (omega (arith, ints, clamps)))) }

pub overflow_sub-upto : goal.overflow_sub-upto
overflow_sub-upto g c = let within = c.requires.within in omega (arith, ints, clamps)

pub overflow_cast-upto : goal.overflow_cast-upto
overflow_cast-upto g c = let within = c.requires.within in (omega (arith, ints, clamps), omega (arith, ints, clamps))
