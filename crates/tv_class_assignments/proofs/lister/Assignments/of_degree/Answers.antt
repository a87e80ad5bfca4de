use Rattle.std.proofs.Common.{◌≡◌, subst, List, IfOk}
use Rattle.tv_spec_boxes.specs.Assignments.{Assignment}
use Rattle.tv_class_assignments.proofs.Lefts.{with_left-degree}
use Rattle.tv_class_assignments.proofs.lister.Assignments.of_degree.Goals as goal

pub returns : goal.returns
returns c =
    let P : List Assignment → Type 0 = λ list. IfOk c.all_with.result (λ all. all ≡ list) in
    subst P (with_left-degree c.args.web.now c.args.d c.of_degree-left.result c.of_degree-left.ensures.class c.of_degree-left.ensures.degree) c.all_with.ensures
