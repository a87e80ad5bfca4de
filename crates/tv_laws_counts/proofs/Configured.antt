-- The list of configurations has exactly those that the relation says, each once.
use Rattle.std.specs.Prelude.{◌≡◌, Contains, ℕ, suc, ◌+◌, ◌-◌, ◌≤◌, Bool, true, false, cond, ◌&&◌, nat_eq, nat_lt, ℤ, pos, negsuc, ◌+ℤ◌, ◌-ℤ◌, List, [], ◌∷◌, map, length}
use Rattle.std.specs.List.{AllByRecursion, IsDistinct, list_any}
use Rattle.std.specs.Cmp.Lexicographic.{pointwise}
use Rattle.std.proofs.Common.{refl, sym, ap, ◌∙◌, arith}
use Rattle.std.proofs.lemmas.Int.{ints}
use Rattle.std.proofs.lemmas.Bool.{and_left, and_right}
use Rattle.std.proofs.lemmas.Bool.Decides.{nat_tests}
use Rattle.std.proofs.lemmas.List.{length-map}
use Rattle.tv_lemmas.specs.Naturals.{as_natural}
use Rattle.tv_lemmas.proofs.Members.{all-any, all-map, all-flat_map, all-filter, all-both, all-contains, contains-head, contains-filter, contains-map, contains-flat_map, contains-range}
use Rattle.tv_lemmas.proofs.Distinct.{distinct-map, distinct-filter, distinct-flat_map, distinct-range, distinct-ahead, pointwise-tells}
use Rattle.tv_spec_plane.specs.Web.{Web, compact, below, edge_degree, degree_of}
use Rattle.tv_spec_plane.specs.Graded.{IsGraded}
use Rattle.tv_partition.specs.Rows.{IsDiagram}
use Rattle.tv_cells.specs.declared.cell.Cell.{Cell}
use Rattle.tv_cells.specs.declared.legs.Legs.{Legs}
use Rattle.tv_cells.specs.Cells.{same, rises, cube, sublists_of}
use Rattle.tv_cells.specs.Extras.{is_extras, AreDiagrams, extent}
use Rattle.tv_cells.proofs.Rising.{same_itself}
use Rattle.tv_cells.proofs.Cubes.{cube-rises, cube-has}
use Rattle.tv_cells.proofs.Downward.{test_is_relation}
use Rattle.tv_spec_boxes.specs.Assignments.{Rows, Assignment, all_legs, class_of, edge_costs, overlaps_of, choices, assignments, assignments_of, same_vector}
use Rattle.tv_spec_boxes.specs.Configurations.{Configuration, configuration, extras_of, fillings, fillings_of, boxes_left, boxes_of, configurations_on, configurations}
use Rattle.tv_spec_boxes.specs.Relations.{AreExtras, AreAtCorners, IsConfiguration}
use Rattle.tv_cells.proofs.Sublists.{sublists_of-length}
use Rattle.tv_spec_boxes.proofs.Vectors.{same_vector-same}
use Rattle.tv_spec_boxes.proofs.Members.{IsOf, configurations_are}
use Rattle.tv_laws_counts.specs.Cubes.{IsWithin}
use Rattle.tv_laws_counts.specs.Members.{same_configuration, ConfigurationsAreAll, ConfigurationsOnce}
use Rattle.tv_laws_counts.proofs.Choices.{degree_by, IsChoice, choices_are}
use Rattle.tv_laws_counts.proofs.Degrees.{weights, weights_positive, class_of-degree}
use Rattle.tv_laws_counts.proofs.Assigned.{choice_listed, assignments_once}
use Rattle.tv_laws_counts.proofs.Fillings.{with_first, legs_are}
use Rattle.tv_laws_counts.proofs.Reaching.{extras_within}
use Rattle.tv_laws_counts.proofs.Rises.{same_cell}
use Rattle.tv_laws_counts.proofs.SetsOnce.{sublists-rise, sublist_listed, sublists-once}

-- ---- the sets of extras at a corner

extras-are : (legs : Legs) (side i : ℕ) → AreDiagrams legs → AllByRecursion (AreExtras legs) (extras_of legs side i)
extras-are legs side i is =
    let cells = cube (side + extent legs) in
    all-filter (λ s. rises s ≡ true) (AreExtras legs) (is_extras legs) (λ s r on. record { order = r; extras = (test_is_relation legs s is).0 on }) (sublists_of i cells) (sublists-rise i cells (cube-rises (side + extent legs)))

extras-long : (legs : Legs) (side i : ℕ) → AllByRecursion (λ s. length s ≡ i) (extras_of legs side i)
extras-long legs side i =
    let cells = cube (side + extent legs) in
    all-filter (λ (s : List Cell). length s ≡ i) (λ (s : List Cell). length s ≡ i) (is_extras legs) (λ s e on. e) (sublists_of i cells) (sublists_of-length i cells)

in_cube : (n side : ℕ) (c : Cell) → IsWithin n c → n ≤ side → list_any (same c) (cube side) ≡ true
in_cube n side c within h = cube-has side c ∙ (let x = within.x in let y = within.y in let z = within.z in let all : (nat_lt c.x side && (nat_lt c.y side && nat_lt c.z side)) ≡ true = grind (arith, nat_tests) in all)

extras-listed : (legs : Legs) (side : ℕ) (cells : List Cell) → AreDiagrams legs → AreExtras legs cells → length cells ≤ side → Contains (extras_of legs side (length cells)) cells
extras-listed legs side cells is are few =
    let on : is_extras legs cells ≡ true = (test_is_relation legs cells is).1 are.extras in
    contains-filter (is_extras legs) cells (sublists_of (length cells) (cube (side + extent legs)))
    (sublist_listed cells (cube (side + extent legs)) are.order (cube-rises (side + extent legs)) (λ c m. in_cube (length cells + extent legs) (side + extent legs) c (extras_within legs cells c is on m) (omega arith))) on

extras-once : (legs : Legs) (side i : ℕ) → IsDistinct (pointwise same) (extras_of legs side i)
extras-once legs side i = distinct-filter (pointwise same) (is_extras legs) (sublists_of i (cube (side + extent legs))) (sublists-once i (cube (side + extent legs)) (cube-rises (side + extent legs)))

-- ---- fillings

no_corner : (b : Bool) → AllByRecursion (AreAtCorners []) (cond b ([] ∷ []) [])
no_corner true = (tt, tt)
no_corner false = tt

fillings-are : (legs : List Legs) → AllByRecursion AreDiagrams legs → (side n : ℕ) → AllByRecursion (AreAtCorners legs) (fillings legs side n)
unfolding fillings
fillings-are [] all side n = no_corner (nat_eq n 0)
fillings-are (l ∷ legs) all side n =
    all-flat_map (λ (i : ℕ). Unit {0}) (AreAtCorners (l ∷ legs)) (with_first l legs side n)
    (λ i none. all-flat_map (AreExtras l) (AreAtCorners (l ∷ legs)) (λ cells. map (λ others. cells ∷ others) (fillings legs side (n - i)))
    (λ cells are. all-map (AreAtCorners legs) (AreAtCorners (l ∷ legs)) (λ others. cells ∷ others) (λ others rest. (are, rest)) (fillings legs side (n - i)) (fillings-are legs all.1 side (n - i)))
    (extras_of l side i) (extras-are l side i all.0))
    (below (suc n)) (all-any (λ (i : ℕ). Unit {0}) (λ i. tt) (below (suc n)))

pub filling_listed : (legs : List Legs) → AllByRecursion AreDiagrams legs → (sets : List (List Cell)) → AreAtCorners legs sets → (side n : ℕ) → boxes_of sets ≡ n → n ≤ side → Contains (fillings legs side n) sets
unfolding fillings
filling_listed [] all [] are side n e h = let none : nat_eq n 0 ≡ true = grind (arith, nat_tests) in rw none (contains-head [] [] [] refl)
filling_listed [] all (cells ∷ sets) are side n e h = absurd are
filling_listed (l ∷ legs) all [] are side n e h = absurd are
filling_listed (l ∷ legs) all (cells ∷ sets) are side n e h =
    contains-flat_map (with_first l legs side n) (length cells) (cells ∷ sets) (below (suc n)) (contains-range 0 (suc n) (length cells) (omega arith) (omega arith))
    (contains-flat_map (λ first. map (λ others. first ∷ others) (fillings legs side (n - length cells))) cells (cells ∷ sets) (extras_of l side (length cells)) (extras-listed l side cells all.0 are.0 (omega arith))
    (contains-map (λ others. cells ∷ others) sets (fillings legs side (n - length cells)) (filling_listed legs all.1 sets are.1 side (n - length cells) (omega arith) (omega arith))))

abbrev same_cells : List Cell → List Cell → Bool
same_cells = pointwise same

abbrev same_sets : List (List Cell) → List (List Cell) → Bool
same_sets = pointwise same_cells

cells-own : (cells : List Cell) → same_cells cells cells ≡ true
cells-own [] = refl
cells-own (c ∷ cells) = rw (same_itself c) (cells-own cells)

no_corner-once : (b : Bool) → IsDistinct same_sets (cond b ([] ∷ []) [])
unfolding IsDistinct
no_corner-once true = (tt, tt)
no_corner-once false = tt

pub fillings-once : (legs : List Legs) (side n : ℕ) → IsDistinct same_sets (fillings legs side n)
unfolding fillings
fillings-once [] side n = no_corner-once (nat_eq n 0)
fillings-once (l ∷ legs) side n =
    distinct-ahead same_cells (pointwise-tells same same_cell) cells-own length (extras_of l side) (λ i. fillings legs side (n - i))
    (extras-long l side) (extras-once l side) (λ i. fillings-once legs side (n - i)) (below (suc n)) (distinct-range 0 (suc n))

fillings_of-are : (legs : List Legs) → AllByRecursion AreDiagrams legs → (z : ℤ) → AllByRecursion (AreAtCorners legs) (fillings_of legs z)
fillings_of-are legs all (pos n) = fillings-are legs all n n
fillings_of-are legs all (negsuc n) = tt

fillings_of-once : (legs : List Legs) (z : ℤ) → IsDistinct same_sets (fillings_of legs z)
unfolding IsDistinct
fillings_of-once legs (pos n) = fillings-once legs n n
fillings_of-once legs (negsuc n) = tt

-- ---- configurations

record HasParts (w : Web) (fixed : List Rows) (c : Configuration) : Type 0 where
  one_each : length c.diagrams ≡ length (compact w)
  diagrams : AllByRecursion IsDiagram c.diagrams
  extras : AreAtCorners (all_legs w c.diagrams fixed) c.extras

abbrev degrees : Web → List ℕ
degrees w = weights w (compact w)

parts-on : (w : Web) (fixed : List Rows) (n : ℤ) (m : ℕ) → AllByRecursion IsDiagram fixed → (a : Assignment) → IsChoice (degrees w) m a → AllByRecursion (HasParts w fixed) (configurations_on w fixed a n)
parts-on w fixed n m also a is =
    all-map (AreAtCorners (all_legs w a fixed)) (HasParts w fixed) (configuration a)
    (λ sets are. record { one_each = is.one_each ∙ length-map (compact w) (λ e. as_natural (edge_degree w e)); diagrams = is.diagrams; extras = are })
    (fillings_of (all_legs w a fixed) (boxes_left w fixed a n)) (fillings_of-are (all_legs w a fixed) (legs_are w a fixed is.diagrams also) (boxes_left w fixed a n))

parts : (w : Web) (fixed : List Rows) (v : List ℤ) (n : ℤ) → AllByRecursion IsDiagram fixed → AllByRecursion (HasParts w fixed) (configurations w fixed v n)
unfolding assignments
parts w fixed v n also =
    let m = as_natural (degree_of w.heights v) in
    all-flat_map (IsChoice (degrees w) m) (HasParts w fixed) (λ a. configurations_on w fixed a n) (parts-on w fixed n m also) (assignments_of w v)
    (all-filter (IsChoice (degrees w) m) (IsChoice (degrees w) m) (λ a. same_vector (class_of w a) v) (λ a is on. is) (choices (degrees w) m) (choices_are (degrees w) m))

each_is : (w : Web) (fixed : List Rows) (v : List ℤ) (n : ℤ) → AllByRecursion IsDiagram fixed → AllByRecursion (IsConfiguration w fixed v n) (configurations w fixed v n)
each_is w fixed v n also =
    all-both (IsOf w fixed v n) (HasParts w fixed) (IsConfiguration w fixed v n)
    (λ c of has. record { one_each = has.one_each; diagrams = has.diagrams; class = of.class; extras = has.extras; chi = of.chi })
    (configurations w fixed v n) (configurations_are w fixed v n) (parts w fixed v n also)

of_class : (w : Web) (v : List ℤ) (a : Assignment) → IsGraded w → length a ≡ length (compact w) → AllByRecursion IsDiagram a → class_of w a ≡ v → Contains (assignments_of w v) a
unfolding assignments
of_class w v a graded one_each diagrams class =
    let m = as_natural (degree_of w.heights v) in
    let degree : degree_of w.heights v ≡ pos (degree_by (degrees w) a) = ap (degree_of w.heights) (sym class) ∙ class_of-degree w graded a in
    let exact : as_natural (degree_of w.heights v) ≡ degree_by (degrees w) a = ap as_natural degree in
    contains-filter (λ b. same_vector (class_of w b) v) a (choices (degrees w) m)
    (choice_listed (degrees w) (weights_positive w (compact w) graded) m a (record { one_each = one_each ∙ sym (length-map (compact w) (λ e. as_natural (edge_degree w e))); diagrams = diagrams; within = omega arith }))
    (rw class (same_vector-same v))

left : (costs : ℤ) (boxes overlaps : ℕ) (n : ℤ) → (costs +ℤ pos boxes) -ℤ pos overlaps ≡ n → (n -ℤ costs) +ℤ pos overlaps ≡ pos boxes
left costs boxes overlaps n e = omega (arith, ints)

listed : (w : Web) (fixed : List Rows) (v : List ℤ) (n : ℤ) (c : Configuration) → IsGraded w → AllByRecursion IsDiagram fixed → IsConfiguration w fixed v n c → Contains (configurations w fixed v n) c
listed w fixed v n c graded also is =
    let legs = all_legs w c.diagrams fixed in
    let boxes : boxes_left w fixed c.diagrams n ≡ pos (boxes_of c.extras) = left (edge_costs w c.diagrams) (boxes_of c.extras) (overlaps_of (all_legs w c.diagrams fixed)) n is.chi in
    let filled : Contains (fillings_of legs (boxes_left w fixed c.diagrams n)) c.extras = rw boxes (filling_listed legs (legs_are w c.diagrams fixed is.diagrams also) c.extras is.extras (boxes_of c.extras) (boxes_of c.extras) refl (omega arith)) in
    contains-flat_map (λ b. configurations_on w fixed b n) c.diagrams c (assignments_of w v) (of_class w v c.diagrams graded is.one_each is.diagrams is.class)
    (contains-map (configuration c.diagrams) c.extras (fillings_of legs (boxes_left w fixed c.diagrams n)) filled)

pub configurations_are_all : ConfigurationsAreAll
configurations_are_all w fixed v n c graded also =
    ((λ among. all-contains (IsConfiguration w fixed v n) (configurations w fixed v n) c (each_is w fixed v n also) among), listed w fixed v n c graded also)

-- ---- none twice

assignments-apart : (a b : Assignment) → pointwise (pointwise nat_eq) a b ≡ false → (c d : Configuration) → c.diagrams ≡ a → d.diagrams ≡ b → same_configuration c d ≡ false
assignments-apart a b differ c d p q = and_left _ (same_sets c.extras d.extras) (rw (p, q) differ)

sets-apart : (a : Assignment) (x y : List (List Cell)) → same_sets x y ≡ false → same_configuration (configuration a x) (configuration a y) ≡ false
sets-apart a x y differ = and_right (pointwise (pointwise nat_eq) a a) (same_sets x y) differ

with_diagrams : (a : Assignment) (fills : List (List (List Cell))) → AllByRecursion (λ (c : Configuration). c.diagrams ≡ a) (map (configuration a) fills)
with_diagrams a [] = tt
with_diagrams a (x ∷ fills) = (refl, with_diagrams a fills)

pub configurations_once : ConfigurationsOnce
configurations_once w fixed v n =
    distinct-flat_map (pointwise (pointwise nat_eq)) same_configuration (λ (a : Assignment) (c : Configuration). c.diagrams ≡ a) (λ a. configurations_on w fixed a n) assignments-apart
    (assignments_of w v) (distinct-filter (pointwise (pointwise nat_eq)) (λ a. same_vector (class_of w a) v) (assignments w (as_natural (degree_of w.heights v))) (assignments_once w (as_natural (degree_of w.heights v))))
    (all-any (λ a. AllByRecursion (λ (c : Configuration). c.diagrams ≡ a) (configurations_on w fixed a n)) (λ a. with_diagrams a (fillings_of (all_legs w a fixed) (boxes_left w fixed a n))) (assignments_of w v))
    (all-any (λ a. IsDistinct same_configuration (configurations_on w fixed a n)) (λ a. distinct-map same_sets same_configuration (configuration a) (sets-apart a) (fillings_of (all_legs w a fixed) (boxes_left w fixed a n)) (fillings_of-once (all_legs w a fixed) (boxes_left w fixed a n))) (assignments_of w v))
