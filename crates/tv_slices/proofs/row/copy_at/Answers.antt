use Rattle.std.proofs.Common.{◌≡◌, sym, subst}
use Rattle.std.specs.Prelude.{IfOk}
use Rattle.std.proofs.lemmas.Bool.{ltb-true, ltb-false}
use Rattle.tv_laws_series.proofs.Listed.{at_read, at_past}
use Rattle.tv_slices.proofs.row.copy_at.Goals as goal

pub returns-in-Some-clause-value : goal.returns-in-Some-clause-value
returns-in-Some-clause-value g c =
    let P : g.row.C.Denot → Type 0 = λ v. IfOk c.copy.result (λ s. s ≡ v) in
    subst P (at_read g.C.Ring.ring c.args.xs.now c.args.e c.in-Some.count.now c.in-Some.ensures.lookup.1 (ltb-true c.args.e _ (sym c.in-Some.ensures.lookup.0))) c.copy.ensures.value

pub returns-in-None-clause-value : goal.returns-in-None-clause-value
returns-in-None-clause-value g c =
    let P : g.row.C.Denot → Type 0 = λ v. IfOk c.zero.result (λ s. s ≡ v) in
    subst P (sym (at_past g.C.Ring.ring c.args.xs.now c.args.e (ltb-false c.args.e _ (sym c.in-None.ensures.lookup.0)))) c.zero.ensures.value
