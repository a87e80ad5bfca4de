use Rattle.std.proofs.Common.{◌≡◌, ◌∷◌, [], ◌∙◌, refl, arith, le_trans, to_z, of_z, w64}
use Rattle.std.proofs.lemmas.Int.{ints}
use Rattle.tv_laws_series.proofs.PolyKept.{value_single_row, term_reach}
use Rattle.tv_laurent.proofs.poly.LPoly.term.Goals as goal

pub normal-requires-clause-values : goal.normal-requires-clause-values
normal-requires-clause-values g c = value_single_row g.met.C.Ring.laws g.met.C.Ring.sizes c.args.c _ (c.in_ok-push.ensures.items ∙ rw c.new-coefficients.ensures.items refl) c.known.ensures.value

pub normal-requires-clause-reach : goal.normal-requires-clause-reach
normal-requires-clause-reach g c =
    let items : c.push.new.self.items ≡ c.args.c ∷ [] = c.in_ok-push.ensures.items ∙ rw c.new-coefficients.ensures.items refl in
    let k : to_z w64 (of_z w64 c.args.exponent) ≡ c.args.exponent = omega (arith, ints) in
    rw (k, items) (le_trans (term_reach g.met.C.Ring.laws g.met.C.Ring.sizes c.args.exponent c.args.c c.known.ensures.value) c.requires.reach)
