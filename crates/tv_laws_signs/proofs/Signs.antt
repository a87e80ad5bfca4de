-- The sign of a configuration, of all of a class and Euler characteristic, and of their count.
use Rattle.std.specs.Prelude.{◌≡◌, ℤ, List}
use Rattle.std.proofs.Common.{sym, ap, ◌∙◌}
use Rattle.tv_lemmas.proofs.Members.{all-onto}
use Rattle.tv_spec_plane.specs.Web.{Web, even_sum, class_sign}
use Rattle.tv_spec_boxes.specs.Assignments.{Rows, class_of, edge_twist}
use Rattle.tv_spec_boxes.specs.Configurations.{Configuration, chi_of, configuration_sign, configurations, signed_count}
use Rattle.tv_lemmas.proofs.Sums.{total-alike}
use Rattle.tv_laws_edges.specs.Rule.{HasEdgeRule}
use Rattle.tv_laws_edges.proofs.Parity.{is_even, eqv, sign_by, is_even-add}
use Rattle.tv_laws_signs.specs.Laws.{ConfigurationSign, OneSign, CountedSign}
use Rattle.tv_laws_signs.proofs.EvenSums.{class_of-even}
use Rattle.tv_spec_boxes.proofs.Members.{IsOf, configurations_are}

pub configuration_has_sign : ConfigurationSign
configuration_has_sign w fixed c rules =
    let left = is_even-add (chi_of w fixed c) (edge_twist w c.diagrams) in
    let right = is_even-add (chi_of w fixed c) (even_sum w.points (class_of w c.diagrams)) in
    let same = ap (eqv (is_even (chi_of w fixed c))) (sym (class_of-even w c.diagrams rules)) in
    ap sign_by (left ∙ (same ∙ sym right))

one_of : (w : Web) (fixed : List Rows) (v : List ℤ) (n : ℤ) (c : Configuration) → HasEdgeRule w → IsOf w fixed v n c → configuration_sign w fixed c ≡ class_sign w.points v n
one_of w fixed v n c rules is = configuration_has_sign w fixed c rules ∙ (ap (λ (u : List ℤ). class_sign w.points u (chi_of w fixed c)) is.class ∙ ap (class_sign w.points v) is.chi)

pub one_sign : OneSign
one_sign w fixed v n rules =
    all-onto (IsOf w fixed v n) (λ c. configuration_sign w fixed c ≡ class_sign w.points v n) (λ c is. one_of w fixed v n c rules is) (configurations w fixed v n) (configurations_are w fixed v n)

pub counted_sign : CountedSign
unfolding signed_count
counted_sign w fixed v n rules = total-alike (configuration_sign w fixed) (class_sign w.points v n) (configurations w fixed v n) (one_sign w fixed v n rules)
