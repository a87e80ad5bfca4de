-- The sign of a partial configuration.
use Rattle.std.proofs.Common.{sym, ap, ◌∙◌}
use Rattle.tv_spec_plane.specs.Web.{even_sum}
use Rattle.tv_spec_boxes.specs.Assignments.{class_of, edge_twist}
use Rattle.tv_laws_edges.proofs.Parity.{is_even, eqv, sign_by, is_even-add}
use Rattle.tv_laws_signs.proofs.EvenSums.{class_of-even}
use Rattle.tv_spec_partial.specs.Partial.{partial_chi}
use Rattle.tv_laws_signs.specs.PartialLaws.{PartialSign}

pub partial_has_sign : PartialSign
partial_has_sign w t c rules =
    let left = is_even-add (partial_chi w t c) (edge_twist w c.diagrams) in
    let right = is_even-add (partial_chi w t c) (even_sum w.points (class_of w c.diagrams)) in
    let same = ap (eqv (is_even (partial_chi w t c))) (sym (class_of-even w c.diagrams rules)) in
    ap sign_by (left ∙ (same ∙ sym right))
