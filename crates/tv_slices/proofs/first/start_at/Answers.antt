use Rattle.std.proofs.Common.{◌≡◌, subst}
use Rattle.std.specs.Prelude.{IfOk}
use Rattle.tv_slices.proofs.Ends.{start-one, start-none}
use Rattle.tv_slices.proofs.first.start_at.Goals as goal

pub returns-then-e-eq0-clause-value : goal.returns-then-e-eq0-clause-value
returns-then-e-eq0-clause-value g c =
    let P : g.row.C.Denot → Type 0 = λ v. IfOk c.one.result (λ s. s ≡ v) in
    subst P (start-one g.met.C.Ring.laws c.args.e c.if-e-eq0.true) c.one.ensures.value

pub returns-else-e-eq0-clause-value : goal.returns-else-e-eq0-clause-value
returns-else-e-eq0-clause-value g c =
    let P : g.row.C.Denot → Type 0 = λ v. IfOk c.zero.result (λ s. s ≡ v) in
    subst P (start-none g.C.Ring.ring c.args.e c.if-e-eq0.false) c.zero.ensures.value
