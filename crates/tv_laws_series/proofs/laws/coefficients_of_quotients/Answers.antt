use Rattle.tv_laws_series.proofs.PairSums.{upto-quotient, pairs-quotient}
use Rattle.tv_laws_series.proofs.laws.coefficients_of_quotients.Goals as goal

pub returns : goal.returns
returns g c = record { upto = upto-quotient g.C.Ring.ring; coefficients = pairs-quotient g.met.C.Ring.laws }
