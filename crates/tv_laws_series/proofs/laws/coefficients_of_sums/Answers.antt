use Rattle.std.proofs.Common.{◌≤ℤ◌, arith}
use Rattle.std.proofs.lemmas.Int.{ints, clamps}
use Rattle.tv_laws_series.specs.Terms.{upto}
use Rattle.tv_laws_series.proofs.Coefficients.{upto-sum, coefficient-sum}
use Rattle.tv_laws_series.proofs.laws.coefficients_of_sums.Goals as goal

pub returns : goal.returns
returns g c = record {
  upto = upto-sum g.C.Ring.ring;
  coefficients = λ a b n va vb h.
      let ha : n ≤ℤ upto a = omega (arith, ints, clamps) in let hb : n ≤ℤ upto b = omega (arith, ints, clamps) in
      coefficient-sum g.met.C.Ring.laws a b n va vb ha hb;
}
