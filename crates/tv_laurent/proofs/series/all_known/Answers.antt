use Rattle.std.proofs.Common.{arith}
use Rattle.tv_laws_series.proofs.Listed.{values_all, values_more}
use Rattle.tv_laurent.proofs.series.all_known.Goals as goal

pub loop-coefficient-preserved : goal.loop-coefficient-preserved
loop-coefficient-preserved g c = values_more g.met.C.Ring.laws c.args.coefficients.now c.loop-coefficient.coefficient-index c.coefficient-item.result c.coefficient-item.is c.loop-coefficient-test.true c.loop-coefficient.invariant c.known.ensures.value

pub returns : goal.returns
returns g c = record { values = values_all g.met.C.Ring.laws c.args.coefficients.now (λ k h. c.loop-coefficient.invariant k (omega (arith, c.loop-coefficient-test.false))) }
