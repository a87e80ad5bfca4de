use Rattle.std.proofs.Common.{◌∙◌, ap, subst}
use Rattle.tv_class_assignments.specs.Remaining.{Left, IsLeft, less}
use Rattle.tv_lattice.specs.Classes.{IsEntries}
use Rattle.tv_class_assignments.proofs.Less.{beside-left, made_left}
use Rattle.tv_class_assignments.proofs.remaining.Remaining.beside.Goals as goal

pub invariant_of-result : goal.invariant_of-result
invariant_of-result c =
    let l = c.args.self.now in
    let known : IsLeft l = subst IsLeft c.self.view_is c.self.invariant in
    made_left _ _ _ _
    (let d = ap (λ (r : Left). r.degree) c.self.view_is in cc)
    (c.in_ok-class.ensures ∙ (ap (λ v. less c.args.size v c.as_slice.result.now) c.entries.ensures.value ∙ ap (less c.args.size c.args.class.now) (c.as_slice.ensures.value ∙ ap (λ (r : Left). r.class) c.self.view_is)))
    (beside-left c.args.size c.args.degree c.args.class.now l c.requires.positive c.requires.fits c.requires.asked (subst IsEntries c.entries.ensures.value c.entries.ensures.limits) known)
