use Rattle.tv_laws_series.proofs.PolyRing.{poly_laws}
use Rattle.tv_laws_series.proofs.PolySizeLaws.{poly_size_laws}
use Rattle.tv_laws_series.proofs.laws.polynomials_are_a_ring.Goals as goal

pub returns : goal.returns
returns g c = record { laws = poly_laws g.met.C.Ring.laws; sizes = poly_size_laws g.met.C.Ring.laws g.met.C.Ring.sizes }
