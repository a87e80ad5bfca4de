use Rattle.std.proofs.Common.{◌≡◌, ◌<◌, length, arith, inr, to_z, of_z, w64, ◌∙◌, refl}
use Rattle.std.proofs.lemmas.Int.{ints}
use Rattle.tv_laws_series.specs.Terms.{above}
use Rattle.tv_laws_series.proofs.Exponents.{above_is}
use Rattle.tv_laws_series.proofs.Listed.{read_at}
use Rattle.tv_laurent.proofs.poly.LPoly.coefficient.Goals as goal

pub overflow_add-end : goal.overflow_add-end
overflow_add-end g c = let low = c.self.invariant.bounded.low in let last = c.self.invariant.bounded.upto in let ok = c.self.inside.coefficients.ok in omega (arith, ints)

pub places-requires-clause-from : goal.places-requires-clause-from
places-requires-clause-from g c = let low = c.self.invariant.bounded.low in omega (arith, ints)

pub places-requires-clause-to : goal.places-requires-clause-to
places-requires-clause-to g c = let low = c.self.invariant.bounded.low in let last = c.self.invariant.bounded.upto in let ok = c.self.inside.coefficients.ok in omega (arith, ints)

pub index-requires : goal.index-requires
index-requires g c =
    let low = c.self.invariant.bounded.low in let last = c.self.invariant.bounded.upto in let ok = c.self.inside.coefficients.ok in
    let k : to_z w64 (of_z w64 c.self.inside.low) ≡ c.self.inside.low = omega (arith, ints) in let k' : to_z w64 (of_z w64 c.args.n) ≡ c.args.n = omega (arith, ints) in
    let p : c.places.result ≡ above c.self.inside.low c.args.n = c.places.ensures.value ∙ rw (k, k') refl in let o = above_is c.self.inside.low c.args.n in omega (arith, ints)

pub returns-then-end-n : goal.returns-then-end-n
returns-then-end-n g c =
    let low = c.self.invariant.bounded.low in let last = c.self.invariant.bounded.upto in let ok = c.self.inside.coefficients.ok in
    record { told = rw (← c.self.view_is) (inr (omega (arith, ints))) }

pub returns-else-end-n : goal.returns-else-end-n
returns-else-end-n g c =
    let a = c.self.inside in let xs = a.coefficients.items in let n = c.args.n in let o = above_is a.low n in
    let low = c.self.invariant.bounded.low in let last = c.self.invariant.bounded.upto in let ok = c.self.inside.coefficients.ok in
    let k : to_z w64 (of_z w64 a.low) ≡ a.low = omega (arith, ints) in let k' : to_z w64 (of_z w64 n) ≡ n = omega (arith, ints) in
    let p : c.places.result ≡ above a.low n = c.places.ensures.value ∙ rw (k, k') refl in
    let within : above a.low n < length xs = omega (arith, ints) in
    record { told = rw (← c.self.view_is) (omega (arith, ints), omega (arith, ints), read_at g.C.Ring.ring xs _ (above a.low n) c.index.result.now c.index.ensures p within) }
