use Rattle.std.proofs.Common.{pos, ap}
use Rattle.tv_laws_series.specs.Terms.{terms}
use Rattle.tv_laws_series.specs.Polynomials.{poly_zero}
use Rattle.tv_laws_series.proofs.PolyKept.{same_kept, zero_kept}
use Rattle.tv_laurent.proofs.poly.LPolyRing.zero.Goals as goal

pub invariant_of-result : goal.invariant_of-result
invariant_of-result g c = let laws = g.met.C.Ring.laws in let sizes = g.met.C.Ring.sizes in same_kept laws sizes _ poly_zero (ap (terms (pos 0)) c.new.ensures.items) (zero_kept laws sizes)
