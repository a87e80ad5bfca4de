use Rattle.tv_laws_series.proofs.SeriesRing.{series_laws}
use Rattle.tv_laws_series.proofs.laws.sums_and_products_of_series.Goals as goal

pub returns : goal.returns
returns g c = record { laws = series_laws g.met.C.Ring.laws }
