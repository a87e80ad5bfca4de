use Rattle.tv_spec_series.proofs.Sums.{sums_commute}
use Rattle.tv_graded.proofs.laws.sums_commute.Goals as goal

pub returns : goal.returns
returns g c = record { law = sums_commute g.met.C.Ring.laws }
