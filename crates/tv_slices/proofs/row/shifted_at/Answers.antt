use Rattle.std.proofs.Common.{◌≡◌, subst}
use Rattle.std.specs.Prelude.{IfOk}
use Rattle.tv_slices.proofs.Numbers.{shifted-none, shifted-some}
use Rattle.tv_slices.proofs.row.shifted_at.Goals as goal

pub returns-then-e-x-clause-value : goal.returns-then-e-x-clause-value
returns-then-e-x-clause-value g c =
    let P : g.row.C.Denot → Type 0 = λ v. IfOk c.zero.result (λ s. s ≡ v) in
    subst P (shifted-none g.C.Ring.ring c.args.more.now c.args.x c.args.e c.if-e-x.true) c.zero.ensures.value

pub returns-else-e-x-clause-value : goal.returns-else-e-x-clause-value
returns-else-e-x-clause-value g c =
    let P : g.row.C.Denot → Type 0 = λ v. IfOk c.copy_at.result (λ s. s ≡ v) in
    subst P (shifted-some g.C.Ring.ring c.args.more.now c.args.x c.args.e c.if-e-x.false) c.copy_at.ensures.value
