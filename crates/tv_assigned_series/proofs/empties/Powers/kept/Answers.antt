use Rattle.std.proofs.Common.{◌≡◌, ◌+◌, suc, ap, ◌∙◌, subst, arith, w64, to_z, of_z}
use Rattle.std.specs.Prelude.{pos, ◌≤ℤ◌}
use Rattle.std.proofs.lemmas.Int.{ints}
use Rattle.tv_laws_series.specs.Series.{series_cut}
use Rattle.tv_assigned_series.specs.Empties.{IsPower}
use Rattle.tv_assigned_series.proofs.Powers.{cut-power}
use Rattle.tv_assigned_series.proofs.empties.Powers.kept.Goals as goal

pub returns-then-upto-from-clause-value : goal.returns-then-upto-from-clause-value
returns-then-upto-from-clause-value g c =
    let s = c.index-product.result.now in let k = c.args.k in let z = c.from-then-upto-from.result in
    let own : IsPower g.C.Ring.ring (suc c.args.place) s = c.self.invariant c.args.place s (let l = c.len.ensures in omega (arith, c.if-place-len.true, l)) c.index-product.ensures in
    let power : IsPower g.C.Ring.ring (c.args.place + 1) s = subst (λ m. IsPower g.C.Ring.ring m s) (let e : suc c.args.place ≡ c.args.place + 1 = omega arith in e) own in
    let far : pos k ≤ℤ c.upto.result = (let f = c.from.ensures in omega (arith, ints, c.if-upto-from.true, f)) in
    let last : to_z w64 (of_z w64 z) ≡ pos k = (let f = c.from-then-upto-from.ensures in omega (arith, ints)) in
    cut-power g.C.Ring.ring (c.args.place + 1) k s c.in_ok-copy.field-0 c.cut.result power
    (subst (λ u. pos k ≤ℤ u) c.upto.ensures.value far) c.in_ok-copy.ensures.value (c.cut.ensures.value ∙ ap (λ u. series_cut u c.in_ok-copy.field-0) last)
