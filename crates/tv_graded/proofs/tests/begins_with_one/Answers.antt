use Rattle.std.proofs.Common.{◌≡◌, pos, arith}
use Rattle.std.proofs.lemmas.Int.{ints}
use Rattle.tv_ring.specs.Whole.{wholes}
use Rattle.tv_laurent.proofs.SeriesCalls.{tells_unit}
use Rattle.tv_graded.proofs.tests.begins_with_one.Goals as goal

pub returns-in-Is : goal.returns-in-Is
returns-in-Is c =
    let s = c.args.series.now in let told = c.in-Is.ensures.told in
    let value = c.low.ensures.value in let test = c.if-low-eq0.true in let low : s.low ≡ pos 0 = omega (arith, ints) in
    let read = c.get.ensures.value in let same = c.if-get-eq1.true in let one : c.in-Is.first.now ≡ pos 1 = omega (arith, ints) in
    record { unit = λ _. tells_unit wholes s c.in-Is.first.now low told.1 told.2 one }
