use Rattle.std.proofs.Common.{◌≡◌, length, ◌∙◌, ap, arith, le_trans, to_z, of_z, w64}
use Rattle.std.proofs.lemmas.Int.{ints}
use Rattle.tv_ring.specs.Sums.{at}
use Rattle.tv_laws_series.specs.Terms.{terms}
use Rattle.tv_laws_series.specs.Polynomials.{poly_reach}
use Rattle.tv_laws_series.proofs.PolyKept.{greatest_is_reach, outward_within}
use Rattle.tv_laurent.specs.PolyCalls.{outward}
use Rattle.tv_laurent.proofs.PolyResults.{outward_is}
use Rattle.tv_laurent.proofs.poly.LPolyRing.reach.Goals as goal

pub reach_of-requires-clause-low : goal.reach_of-requires-clause-low
reach_of-requires-clause-low g c = let low = c.self.invariant.bounded.low in omega (arith, ints)

pub reach_of-requires-clause-count : goal.reach_of-requires-clause-count
reach_of-requires-clause-count g c = let low = c.self.invariant.bounded.low in let last = c.self.invariant.bounded.upto in let xs = ap length c.deref.ensures.value in omega (arith, ints)

pub reach_of-requires-clause-outward : goal.reach_of-requires-clause-outward
reach_of-requires-clause-outward g c =
    let r = g.C.Ring.ring in let a = terms c.self.inside.low c.self.inside.coefficients.items in let low = c.self.invariant.bounded.low in
    let k : to_z w64 (of_z w64 a.low) ≡ a.low = omega (arith, ints) in
    rw (k, c.deref.ensures.value) (λ i h. rw (outward_is r a.low (at r a.coefficients) i) (le_trans (outward_within g.met.C.Ring.laws g.met.C.Ring.sizes a i c.self.invariant.normal_form h) c.self.invariant.reach))

pub returns : goal.returns
returns g c =
    let r = g.C.Ring.ring in let a = terms c.self.inside.low c.self.inside.coefficients.items in let low = c.self.invariant.bounded.low in
    let k : to_z w64 (of_z w64 a.low) ≡ a.low = omega (arith, ints) in
    let same : c.reach_of.result ≡ poly_reach r a = c.reach_of.ensures.value ∙ rw (k, c.deref.ensures.value) (greatest_is_reach g.met.C.Ring.laws g.met.C.Ring.sizes a (outward r a.low (at r a.coefficients)) c.self.invariant.normal_form (λ i. outward_is r a.low (at r a.coefficients) i)) in
    record { value = rw (← c.self.view_is) same; within = rw same c.self.invariant.reach }
