use Rattle.std.proofs.Common.{◌≡◌, pos, ◌∙◌, arith}
use Rattle.std.proofs.lemmas.Int.{ints}
use Rattle.tv_laurent.proofs.SeriesCalls.{tells_unit}
use Rattle.tv_laurent.proofs.tests.quotient.Goals as goal

pub div_unit-requires-clause-unit : goal.div_unit-requires-clause-unit
div_unit-requires-clause-unit g c =
    let told = c.in-Is.ensures.told in let value = c.low.ensures.value in let test = c.if-low-eq0.true in let low : c.args.b.now.low ≡ pos 0 = omega (arith, ints) in
    tells_unit g.C.Ring.ring c.args.b.now c.in-Is.first.now low told.1 told.2 (c.same.ensures.same.0 c.if-same.true ∙ c.requires.one)
