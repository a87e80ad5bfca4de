use Rattle.tv_laws_series.proofs.PairSums.{upto-product, coefficient-product_pairs}
use Rattle.tv_laws_series.proofs.laws.coefficients_of_products.Goals as goal

pub returns : goal.returns
returns g c = record { upto = upto-product g.C.Ring.ring; coefficients = coefficient-product_pairs g.met.C.Ring.laws }
