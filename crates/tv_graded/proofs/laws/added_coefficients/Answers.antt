use Rattle.tv_spec_series.proofs.Sums.{coefficient_of-added, coefficient_of-added_other}
use Rattle.tv_graded.proofs.laws.added_coefficients.Goals as goal

pub returns : goal.returns
returns g c = record { here = coefficient_of-added g.met.C.Ring.laws; elsewhere = coefficient_of-added_other g.C.Ring.ring }
