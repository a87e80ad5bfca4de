-- The list of assignments has exactly those that the relation says, each once.
use Rattle.std.specs.Prelude.{◌≡◌, Contains, ℕ, suc, ◌+◌, ◌-◌, ◌*◌, ◌≤◌, ◌<◌, true, nat_eq, nat_le, pos, ◌*ℤ◌, List, [], ◌∷◌, map, filter}
use Rattle.std.specs.List.{flat_map, AllByRecursion, IsDistinct}
use Rattle.std.proofs.Common.{refl, sym, ap, ◌∙◌, arith}
use Rattle.std.proofs.lemmas.Int.{ints}
use Rattle.std.proofs.lemmas.Bool.Decides.{nat_tests}
use Rattle.std.proofs.lemmas.List.{length-map}
use Rattle.std.proofs.lemmas.Map.Views.{Contains-from_any}
use Rattle.tv_lemmas.specs.Naturals.{as_natural}
use Rattle.tv_lemmas.proofs.Members.{all-onto, all-contains, contains-head, contains-filter, contains-map, contains-flat_map, contains-range}
use Rattle.tv_lemmas.proofs.Distinct.{distinct-filter, distinct-range, distinct-ahead}
use Rattle.tv_spec_plane.specs.declared.records.CompactEdge.{CompactEdge}
use Rattle.tv_spec_plane.specs.Web.{Web, compact, below, edge_degree}
use Rattle.tv_spec_plane.specs.Graded.{HasDegree, IsGraded}
use Rattle.tv_partition.specs.Rows.{size, diagrams}
use Rattle.tv_partition.proofs.Members.{diagrams-are-all, same_lists}
use Rattle.tv_partition.proofs.Descending.{diagrams-once}
use Rattle.tv_spec_boxes.specs.Assignments.{Assignment, sum_on, choices, assignments, same_rows, same_choice}
use Rattle.tv_spec_boxes.specs.Relations.{spent_by, IsAssignment}
use Rattle.tv_laws_counts.specs.Members.{AssignmentsAreAll, AssignmentsOnce}
use Rattle.tv_laws_counts.proofs.Choices.{degree_by, IsChoice, HasSize, own, diagrams_are, choices_are, times-more}
use Rattle.tv_laws_counts.proofs.Degrees.{weights, as_natural-positive, weights_positive}

-- ---- each is there

fits : (n g d rest : ℕ) → n * g + rest ≤ d → nat_le (n * g) d ≡ true
fits n g d rest h = grind (arith, nat_tests)

pub choice_listed : (gs : List ℕ) → AllByRecursion (λ g. 0 < g) gs → (d : ℕ) (a : Assignment) → IsChoice gs d a → Contains (choices gs d) a
unfolding choices
choice_listed [] positive d [] is = contains-head [] [] [] refl
choice_listed [] positive d (rows ∷ a) is = absurd (omega (arith, is.one_each))
choice_listed (g ∷ gs) positive d [] is = absurd (omega (arith, is.one_each))
choice_listed (g ∷ gs) positive d (rows ∷ a) is =
    let within : size rows * g + degree_by gs a ≤ d = is.within in
    let few = times-more (size rows) g positive.0 in
    let rest = choice_listed gs positive.1 (d - (size rows * g)) a (record { one_each = omega (arith, is.one_each); diagrams = is.diagrams.1; within = omega arith }) in
    contains-flat_map (λ n. flat_map (λ rows. map (λ a. rows ∷ a) (choices gs (d - (n * g)))) (diagrams n)) (size rows) (rows ∷ a) (filter (λ n. nat_le (n * g) d) (below (suc d)))
    (contains-filter (λ n. nat_le (n * g) d) (size rows) (below (suc d)) (contains-range 0 (suc d) (size rows) (omega arith) (omega arith)) (fits (size rows) g d (degree_by gs a) within))
    (contains-flat_map (λ first. map (λ a. first ∷ a) (choices gs (d - (size rows * g)))) rows (rows ∷ a) (diagrams (size rows))
    (Contains-from_any same_lists rows (diagrams (size rows)) ((diagrams-are-all (size rows) rows).1 (is.diagrams.0, refl)))
    (contains-map (λ a. rows ∷ a) a (choices gs (d - (size rows * g))) rest))

-- ---- and once

pub choices-once : (gs : List ℕ) (d : ℕ) → IsDistinct same_choice (choices gs d)
unfolding choices IsDistinct
choices-once [] d = (tt, tt)
choices-once (g ∷ gs) d =
    distinct-ahead same_rows same_lists own size diagrams (λ n. choices gs (d - (n * g)))
    (λ n. all-onto (HasSize n) (λ rows. size rows ≡ n) (λ rows is. is.1) (diagrams n) (diagrams_are n)) diagrams-once (λ n. choices-once gs (d - (n * g)))
    (filter (λ n. nat_le (n * g) d) (below (suc d))) (distinct-filter nat_eq (λ n. nat_le (n * g) d) (below (suc d)) (distinct-range 0 (suc d)))

pub assignments_once : AssignmentsOnce
unfolding assignments
assignments_once w d = choices-once (weights w (compact w)) d

-- ---- by the relation

spent-is : (w : Web) (es : List CompactEdge) → AllByRecursion (HasDegree w) es → (a : Assignment) → sum_on (spent_by w) es a ≡ pos (degree_by (weights w es) a)
spent-is w [] graded a = refl
spent-is w (e ∷ es) graded [] = refl
spent-is w (e ∷ es) graded (rows ∷ a) =
    let one : edge_degree w e ≡ pos (as_natural (edge_degree w e)) = as_natural-positive (edge_degree w e) graded.0 in
    let first : pos (size rows) *ℤ edge_degree w e ≡ pos (size rows * as_natural (edge_degree w e)) = ap (λ z. pos (size rows) *ℤ z) one in
    omega (arith, ints, spent-is w es graded.1 a)

pub is_assignment : (w : Web) (d : ℕ) (a : Assignment) → IsGraded w → IsChoice (weights w (compact w)) d a → IsAssignment w d a
is_assignment w d a graded is = record {
  one_each = is.one_each ∙ length-map (compact w) (λ e. as_natural (edge_degree w e));
  diagrams = is.diagrams;
  degree = let e = spent-is w (compact w) graded a in let h = is.within in omega (arith, ints);
}

pub is_choice : (w : Web) (d : ℕ) (a : Assignment) → IsGraded w → IsAssignment w d a → IsChoice (weights w (compact w)) d a
is_choice w d a graded is = record {
  one_each = is.one_each ∙ sym (length-map (compact w) (λ e. as_natural (edge_degree w e)));
  diagrams = is.diagrams;
  within = let e = spent-is w (compact w) graded a in let h = is.degree in omega (arith, ints);
}

pub assignments_are_all : AssignmentsAreAll
unfolding assignments
assignments_are_all w d a graded = (found, finds)
  where
    found : Contains (choices (weights w (compact w)) d) a → IsAssignment w d a
    found among = is_assignment w d a graded (all-contains (IsChoice (weights w (compact w)) d) (choices (weights w (compact w)) d) a (choices_are (weights w (compact w)) d) among)

    finds : IsAssignment w d a → Contains (choices (weights w (compact w)) d) a
    finds is = choice_listed (weights w (compact w)) (weights_positive w (compact w) graded) d a (is_choice w d a graded is)
