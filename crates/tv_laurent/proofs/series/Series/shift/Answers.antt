use Rattle.std.proofs.Common.{◌+ℤ◌, arith, ap, refl}
use Rattle.std.proofs.lemmas.Int.{ints}
use Rattle.tv_laws_series.specs.Terms.{terms}
use Rattle.tv_laws_series.proofs.SeriesFrom.{terms-same}
use Rattle.tv_laurent.proofs.SeriesCalls.{same_series, shift_is_series}
use Rattle.tv_laurent.proofs.series.Series.shift.Goals as goal

pub invariant_of-result : goal.invariant_of-result
invariant_of-result g c =
    let a = c.self.inside in let b = c.requires.bounded.low in let e = ap (λ t. t.low) c.self.view_is in
    let bounded = rw (← c.self.view_is) at c.requires.bounded in
    same_series _ _ (terms-same _ (a.low +ℤ c.args.k) _ _ (omega (arith, ints)) refl) (shift_is_series c.args.k (terms a.low a.coefficients.items) bounded c.self.invariant)

pub returns : goal.returns
returns g c = record { value = rw (← c.self.view_is) (terms-same _ _ _ _ (let b = c.requires.bounded.low in let e = ap (λ t. t.low) c.self.view_is in omega (arith, ints)) refl) }
