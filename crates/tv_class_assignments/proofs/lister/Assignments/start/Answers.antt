use Rattle.std.proofs.Common.{◌≡◌, ap, ◌∙◌, subst, w64, List, IfOk}
use Rattle.std.proofs.lemmas.Int.{to_z-of_z}
use Rattle.tv_lemmas.specs.Naturals.{as_natural}
use Rattle.tv_spec_plane.specs.Web.{degree_of}
use Rattle.tv_spec_boxes.specs.Assignments.{Assignment}
use Rattle.tv_class_assignments.proofs.Lefts.{with_left-class}
use Rattle.tv_class_assignments.proofs.lister.Assignments.start.Goals as goal

pub returns : goal.returns
returns c =
    let P : List Assignment → Type 0 = λ list. IfOk c.all_with.result (λ all. all ≡ list) in
    let degree = c.natural-degree.ensures.value ∙ ap as_natural (to_z-of_z w64 c.degree.result (record { sfits = c.degree.type_inv }) ∙ (c.degree.ensures ∙ ap (λ hs. degree_of hs c.args.class) c.heights.ensures.value)) in
    subst P (with_left-class c.args.web.now c.args.class c.in_ok-left.left c.requires.one_each c.in_ok-left.ensures.class (c.in_ok-left.ensures.degree ∙ degree)) c.all_with.ensures
