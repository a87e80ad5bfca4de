use Rattle.tv_laws_series.proofs.SeriesQuotients.{quotient-product, product-quotient, only_series_quotient, value_series_quotient}
use Rattle.tv_laws_series.proofs.laws.quotients_of_series.Goals as goal

pub returns : goal.returns
returns g c = let laws = g.met.C.Ring.laws in record { product = quotient-product laws; undoes = product-quotient laws; only = only_series_quotient laws; values = value_series_quotient laws }
