use Rattle.std.proofs.Common.{◌≡◌, sym, subst, w64}
use Rattle.std.specs.Prelude.{IfOk}
use Rattle.std.proofs.lemmas.Int.{to_z-of_z}
use Rattle.tv_laurent.specs.declared.coefficient.Coefficient.TheVariants.{Beyond, Zero, Is}
use Rattle.tv_graded.proofs.Told.{coefficient_told}
use Rattle.tv_frontier.proofs.joining.coefficient_at.Goals as goal

pub returns-in-Is-clause-value : goal.returns-in-Is-clause-value
returns-in-Is-clause-value g c =
    subst (λ y. IfOk c.copy.result (λ x. x ≡ y)) (sym (coefficient_told g.C.Ring.ring c.args.series.now c.args.n (Is c.in-Is.x) (rw (to_z-of_z w64 c.args.n c.ranges.n) at c.in-Is.ensures.told))) c.copy.ensures.value

pub returns-in-Zero-clause-value : goal.returns-in-Zero-clause-value
returns-in-Zero-clause-value g c =
    subst (λ y. IfOk c.zero.result (λ x. x ≡ y)) (sym (coefficient_told g.C.Ring.ring c.args.series.now c.args.n Zero (rw (to_z-of_z w64 c.args.n c.ranges.n) at c.in-Zero.ensures.told))) c.zero.ensures.value

pub returns-in-Beyond-clause-value : goal.returns-in-Beyond-clause-value
returns-in-Beyond-clause-value g c =
    subst (λ y. IfOk c.zero-in-Beyond.result (λ x. x ≡ y)) (sym (coefficient_told g.C.Ring.ring c.args.series.now c.args.n Beyond (rw (to_z-of_z w64 c.args.n c.ranges.n) at c.in-Beyond.ensures.told))) c.zero-in-Beyond.ensures.value
