-- Assignments and configurations are in their order.
use Rattle.std.specs.Prelude.{◌≡◌, ℕ, suc, ◌-◌, ◌*◌, Bool, true, false, cond, ◌&&◌, nat_eq, nat_lt, nat_le, ℤ, pos, negsuc, List, [], ◌∷◌, map, filter, length}
use Rattle.std.specs.List.{AllByRecursion, IsDistinct}
use Rattle.std.specs.Cmp.Lexicographic.{pointwise}
use Rattle.std.proofs.Common.{refl}
use Rattle.std.proofs.lemmas.Bool.{not-false, not_from_true, or_left, or_right, and_from}
use Rattle.tv_lemmas.specs.Naturals.{as_natural}
use Rattle.tv_lemmas.proofs.Members.{all-any, all-map}
use Rattle.tv_lemmas.proofs.Distinct.{distinct-map, distinct-filter, distinct-flat_map}
use Rattle.tv_spec_plane.specs.Web.{Web, compact, below, edge_degree, degree_of}
use Rattle.tv_partition.specs.Rows.{size, diagrams}
use Rattle.tv_partition.specs.Laws.{greater}
use Rattle.tv_cells.specs.declared.cell.Cell.{Cell}
use Rattle.tv_cells.specs.declared.legs.Legs.{Legs}
use Rattle.tv_cells.specs.Cells.{same, precedes}
use Rattle.tv_cells.proofs.Rising.{same_itself}
use Rattle.tv_spec_boxes.specs.Assignments.{Rows, Assignment, all_legs, class_of, choices, assignments, assignments_of, same_rows, same_choice, same_vector}
use Rattle.tv_spec_boxes.specs.Configurations.{Configuration, configuration, extras_of, fillings, fillings_of, boxes_left, configurations_on, configurations}
use Rattle.tv_laws_counts.proofs.Choices.{own}
use Rattle.tv_laws_orders.specs.Orders.{first_differs, assignment_before, sets_before, configuration_before}
use Rattle.tv_laws_orders.specs.Laws.{AssignmentsInOrder, AssignmentsOfInOrder, ConfigurationsInOrder}
use Rattle.tv_laws_orders.proofs.Ordered.{wrong, Ordered, in_order, ordered-range, ordered-ahead}
use Rattle.tv_laws_orders.proofs.Diagrams.{diagrams-size, diagrams-ordered}
use Rattle.tv_laws_orders.proofs.Sets.{extras-length, extras-ordered}
use Rattle.tv_lemmas.proofs.Lists.{pointwise-own}

choices-ordered : (gs : List ℕ) (d : ℕ) → Ordered assignment_before (choices gs d)
unfolding choices IsDistinct
choices-ordered [] d = (tt, tt)
choices-ordered (g ∷ gs) d =
    let fits : ℕ → Bool = λ n. nat_le (n * g) d in
    ordered-ahead same_rows size greater own diagrams (λ n. choices gs (d - (n * g))) diagrams-size diagrams-ordered
    (λ n. choices-ordered gs (d - (n * g))) (filter fits (below (suc d)))
    (distinct-filter (wrong nat_lt) fits (below (suc d)) (ordered-range 0 (suc d)))

assignments-ordered : (w : Web) (d : ℕ) → Ordered assignment_before (assignments w d)
unfolding assignments
assignments-ordered w d = choices-ordered (map (λ e. as_natural (edge_degree w e)) (compact w)) d

pub assignments_in_order : AssignmentsInOrder
assignments_in_order w d = in_order assignment_before (assignments w d) (assignments-ordered w d)

of_class-ordered : (w : Web) (v : List ℤ) → Ordered assignment_before (assignments_of w v)
of_class-ordered w v =
    let d = as_natural (degree_of w.heights v) in
    distinct-filter (wrong assignment_before) (λ a. same_vector (class_of w a) v) (assignments w d) (assignments-ordered w d)

pub assignments_of_in_order : AssignmentsOfInOrder
assignments_of_in_order w v = in_order assignment_before (assignments_of w v) (of_class-ordered w v)

-- ---- the sets at the corners

no_corner-ordered : (b : Bool) → Ordered sets_before (cond b ([] ∷ []) [])
unfolding IsDistinct
no_corner-ordered true = (tt, tt)
no_corner-ordered false = tt

fillings-ordered : (legs : List Legs) (side n : ℕ) → Ordered sets_before (fillings legs side n)
unfolding fillings
fillings-ordered [] side n = no_corner-ordered (nat_eq n 0)
fillings-ordered (l ∷ legs) side n =
    ordered-ahead (pointwise same) length (first_differs same precedes) (pointwise-own same same_itself) (extras_of l side)
    (λ i. fillings legs side (n - i)) (extras-length l side) (extras-ordered l side)
    (λ i. fillings-ordered legs side (n - i)) (below (suc n)) (ordered-range 0 (suc n))

fillings_of-ordered : (legs : List Legs) (z : ℤ) → Ordered sets_before (fillings_of legs z)
unfolding IsDistinct
fillings_of-ordered legs (pos n) = fillings-ordered legs n n
fillings_of-ordered legs (negsuc n) = tt

-- ---- configurations

by_assignment : (a b : Assignment) → wrong assignment_before a b ≡ false → (c d : Configuration) → c.diagrams ≡ a →
    d.diagrams ≡ b → wrong configuration_before c d ≡ false
by_assignment a b e c d p q =
    not_from_true (configuration_before c d)
    (or_left (assignment_before c.diagrams d.diagrams) (same_choice c.diagrams d.diagrams && sets_before c.extras d.extras)
    (rw (p, q) (not-false (assignment_before a b) e)))

by_sets : (a : Assignment) (x y : List (List Cell)) → wrong sets_before x y ≡ false →
    wrong configuration_before (configuration a x) (configuration a y) ≡ false
by_sets a x y e =
    not_from_true (configuration_before (configuration a x) (configuration a y))
    (or_right (assignment_before a a) (same_choice a a && sets_before x y)
    (and_from (same_choice a a) (sets_before x y) (pointwise-own same_rows own a) (not-false (sets_before x y) e)))

on_assignment-is : (w : Web) (fixed : List Rows) (n : ℤ) (a : Assignment) →
    AllByRecursion (λ (c : Configuration). c.diagrams ≡ a) (configurations_on w fixed a n)
on_assignment-is w fixed n a =
    let fills = fillings_of (all_legs w a fixed) (boxes_left w fixed a n) in
    all-map (λ (x : List (List Cell)). Unit {0}) (λ (c : Configuration). c.diagrams ≡ a) (configuration a) (λ x none. refl) fills
    (all-any (λ (x : List (List Cell)). Unit {0}) (λ x. tt) fills)

on_assignment-ordered : (w : Web) (fixed : List Rows) (n : ℤ) (a : Assignment) →
    Ordered configuration_before (configurations_on w fixed a n)
on_assignment-ordered w fixed n a =
    let legs = all_legs w a fixed in
    let left = boxes_left w fixed a n in
    distinct-map (wrong sets_before) (wrong configuration_before) (configuration a) (by_sets a) (fillings_of legs left)
    (fillings_of-ordered legs left)

pub configurations_in_order : ConfigurationsInOrder
configurations_in_order w fixed v n =
    let listed = assignments_of w v in
    in_order configuration_before (configurations w fixed v n)
    (distinct-flat_map (wrong assignment_before) (wrong configuration_before)
    (λ (a : Assignment) (c : Configuration). c.diagrams ≡ a) (λ a. configurations_on w fixed a n) by_assignment
    listed (of_class-ordered w v)
    (all-any (λ a. AllByRecursion (λ (c : Configuration). c.diagrams ≡ a) (configurations_on w fixed a n))
    (on_assignment-is w fixed n) listed)
    (all-any (λ a. Ordered configuration_before (configurations_on w fixed a n)) (on_assignment-ordered w fixed n) listed))
