use Rattle.std.proofs.Common.{rules, w64, SFits}
use Rattle.std.proofs.lemmas.Int.{to_z-of_z}
use Rattle.tv_ring.specs.Whole.{wholes}
use Rattle.tv_laws_series.proofs.Coefficients.{coefficient_below}
use Rattle.tv_cert.proofs.differences.low_in.Goals as goal

pub returns-in-Some-clause-below : goal.returns-in-Some-clause-below
returns-in-Some-clause-below c n less =
    let fits : SFits w64 c.low.result = search rules in
    let low = rw (to_z-of_z w64 c.low.result fits) at less in
    rw c.in-Some.ensures.value (coefficient_below wholes c.in-Some.series.now n (rw c.low.ensures.value at low))
