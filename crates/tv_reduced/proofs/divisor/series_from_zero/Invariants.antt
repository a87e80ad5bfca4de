use Rattle.std.proofs.Common.{◌≡◌}
use Rattle.tv_laws_series.specs.Terms.{listed}
use Rattle.tv_reduced.specs.Divisors.{counted}
use Rattle.tv_reduced.proofs.divisor.series_from_zero.Given as goal

abbrev pub invariant-loop-j : goal.invariant-loop-j
invariant-loop-j g l = l.coefficients.items ≡ listed (counted g.C.Ring.ring l.series) l.j
