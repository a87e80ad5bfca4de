use Rattle.std.proofs.Common.{◌≡◌, subst, arith, w64, to_z, of_z}
use Rattle.std.specs.Prelude.{pos, IfOk, ◌+ℤ◌}
use Rattle.std.proofs.lemmas.Int.{ints}
use Rattle.tv_assigned_series.proofs.WithSigns.{signed-read, read_place}
use Rattle.tv_assigned_series.proofs.signs.signed_at.Goals as goal

pub returns-in-Is-clause-value : goal.returns-in-Is-clause-value
returns-in-Is-clause-value g c =
    let z = read_place c.args.first c.from-in-Is.result c.args.place c.requires.first c.from-in-Is.ensures (omega arith) in
    let m : to_z w64 (of_z w64 c.from.result) ≡ pos c.args.place = omega (arith, ints) in
    let told = c.in-Is.ensures.told in
    subst (λ y. IfOk c.with_sign.result (λ x. x ≡ y))
    (signed-read g.C.Ring.ring c.args.series.now c.in-Is.x.now c.args.first (to_z w64 (of_z w64 c.from.result)) (to_z w64 (of_z w64 (to_z w64 (of_z w64 c.args.first) +ℤ to_z w64 (of_z w64 c.from-in-Is.result)))) c.args.place c.requires.low m z told.2)
    c.with_sign.ensures.value
