-- The signed count of a class is the sum of the coefficients of its assignments.
use Rattle.std.specs.Prelude.{◌≡◌, ℕ, ℤ, pos, ◌+ℤ◌, ◌*ℤ◌, List, [], ◌∷◌, map}
use Rattle.std.specs.List.{AllByRecursion}
use Rattle.std.proofs.Common.{ap, ◌∙◌}
use Rattle.tv_lemmas.specs.Naturals.{as_natural}
use Rattle.tv_spec_plane.specs.Web.{Web, compact, edge_degree, degree_of, sign}
use Rattle.tv_partition.specs.Rows.{IsDiagram}
use Rattle.tv_cells.specs.declared.cell.Cell.{Cell}
use Rattle.tv_spec_boxes.specs.Assignments.{Rows, Assignment, all_legs, class_of, edge_twist, assignments, assignments_of, same_vector}
use Rattle.tv_spec_boxes.specs.Configurations.{configuration, configuration_sign, configurations_on, fillings_of, boxes_left, signed_count}
use Rattle.tv_lemmas.specs.Sums.{total}
use Rattle.tv_lemmas.proofs.Sums.{total-flat_map, total-same, total-alike}
use Rattle.tv_spec_boxes.proofs.Members.{IsOf, configurations_are}
use Rattle.tv_laws_counts.specs.Ways.{assignment_sign, assignment_coefficient}
use Rattle.tv_laws_counts.specs.Laws.{SignedCountIs}
use Rattle.tv_lemmas.proofs.Members.{all-onto, all-both, all-filter, all-pieces}
use Rattle.tv_laws_counts.proofs.Fillings.{configurations_counted}
use Rattle.tv_laws_counts.proofs.Choices.{IsChoice, choices_are}

-- each configuration on an assignment at n has one sign
signs_on : (w : Web) (fixed : List Rows) (v : List ℤ) (n : ℤ) (a : Assignment) (fills : List (List (List Cell))) → AllByRecursion (IsOf w fixed v n) (map (configuration a) fills) → AllByRecursion (λ c. configuration_sign w fixed c ≡ assignment_sign w a n) (map (configuration a) fills)
signs_on w fixed v n a [] all = tt
signs_on w fixed v n a (cells ∷ fills) all = (ap (λ (z : ℤ). sign (z +ℤ edge_twist w a)) all.0.chi, signs_on w fixed v n a fills all.1)

on_assignment : (w : Web) (fixed : List Rows) (v : List ℤ) (n : ℤ) → AllByRecursion IsDiagram fixed → (a : Assignment) → AllByRecursion IsDiagram a → AllByRecursion (IsOf w fixed v n) (configurations_on w fixed a n) → total (configuration_sign w fixed) (configurations_on w fixed a n) ≡ assignment_coefficient w fixed a n
unfolding assignment_coefficient
on_assignment w fixed v n also a all of =
    total-alike (configuration_sign w fixed) (assignment_sign w a n) (configurations_on w fixed a n) (signs_on w fixed v n a (fillings_of (all_legs w a fixed) (boxes_left w fixed a n)) of)
    ∙ ap (λ k. assignment_sign w a n *ℤ pos k) (configurations_counted w fixed a n also all)

-- the diagrams of each listed assignment
pub assignments_have_diagrams : (w : Web) (d : ℕ) → AllByRecursion (λ a. AllByRecursion IsDiagram a) (assignments w d)
unfolding assignments
assignments_have_diagrams w d =
    let gs : List ℕ = map (λ e. as_natural (edge_degree w e)) (compact w) in
    all-onto (IsChoice gs d) (λ (a : Assignment). AllByRecursion IsDiagram a) (λ a is. is.diagrams) _ (choices_are gs d)

pub assignments_of_have_diagrams : (w : Web) (v : List ℤ) → AllByRecursion (λ a. AllByRecursion IsDiagram a) (assignments_of w v)
assignments_of_have_diagrams w v =
    all-filter (λ (a : Assignment). AllByRecursion IsDiagram a) (λ (a : Assignment). AllByRecursion IsDiagram a) (λ a. same_vector (class_of w a) v) (λ a is e. is)
    (assignments w (as_natural (degree_of w.heights v))) (assignments_have_diagrams w (as_natural (degree_of w.heights v)))

pub signed_count_is : SignedCountIs
unfolding signed_count
signed_count_is w fixed v n also =
    total-flat_map (configuration_sign w fixed) (λ a. configurations_on w fixed a n) (assignments_of w v)
    ∙ total-same (λ a. total (configuration_sign w fixed) (configurations_on w fixed a n)) (λ a. assignment_coefficient w fixed a n) (assignments_of w v)
    (all-both (λ (a : Assignment). AllByRecursion IsDiagram a) (λ (a : Assignment). AllByRecursion (IsOf w fixed v n) (configurations_on w fixed a n)) (λ (a : Assignment). total (configuration_sign w fixed) (configurations_on w fixed a n) ≡ assignment_coefficient w fixed a n)
    (λ a all of. on_assignment w fixed v n also a all of) (assignments_of w v) (assignments_of_have_diagrams w v)
    (all-pieces (IsOf w fixed v n) (λ a. configurations_on w fixed a n) (assignments_of w v) (configurations_are w fixed v n)))
