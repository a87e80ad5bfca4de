use Rattle.std.proofs.Common.{◌≡◌, subst}
use Rattle.std.specs.Prelude.{IfOk}
use Rattle.tv_slices.proofs.Numbers.{sums-of}
use Rattle.tv_slices.proofs.row.sum_at.Goals as goal

pub returns-clause-value : goal.returns-clause-value
returns-clause-value g c =
    let P : g.row.C.Denot → Type 0 = λ v. IfOk c.add.result (λ s. s ≡ v) in
    subst P (sums-of g.C.Ring.ring c.args.before.now c.args.more.now c.args.x c.args.e c.in_ok-first.first c.in_ok-second.second c.in_ok-first.ensures.value c.in_ok-second.ensures.value) c.add.ensures.value
