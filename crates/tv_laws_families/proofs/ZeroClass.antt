-- The series of class zero begins with one: the one assignment of degree 0 has no cell, and there is one configuration
-- without boxes on it.
use Rattle.std.proofs.Common.{◌≡◌, ℕ, zero, suc, ◌-◌, ◌*◌, refl, ap, ◌∙◌, arith}
use Rattle.std.specs.Prelude.{ℤ, pos, negsuc, ◌+ℤ◌, ◌*ℤ◌, ◌<ℤ◌, List, [], ◌∷◌, ◌++◌, map, filter, length, slice_index_or, true}
use Rattle.std.specs.List.{AllByRecursion}
use Rattle.std.proofs.lemmas.Int.{ints}
use Rattle.tv_lemmas.specs.Naturals.{as_natural}
use Rattle.tv_lemmas.specs.Sums.{total}
use Rattle.tv_spec_plane.specs.declared.records.CompactEdge.{CompactEdge}
use Rattle.tv_spec_plane.specs.declared.records.EdgeRef.{EdgeRef}
use Rattle.tv_spec_plane.specs.declared.records.EdgeRef.TheVariants.{Compact, Outer}
use Rattle.tv_spec_plane.specs.declared.records.Corner.{Corner}
use Rattle.tv_spec_plane.specs.Web.{Web, compact, outer, corners, normal_a, edge_class, edge_degree, class_entry, degree_of, sign}
use Rattle.tv_partition.specs.Rows.{IsDiagram, diagrams, diagrams_within}
use Rattle.tv_cells.specs.Costs.{rows_cost}
use Rattle.tv_cells.proofs.Overlaps.{no-overlap}
use Rattle.tv_spec_boxes.specs.Assignments.{Assignment, no_legs, rows_at, legs_of, all_legs, zeros, plus, times, class_on, class_of, sum_on, cost_by, twist_by, overlaps_of, choices, assignments, same_vector, assignments_of}
use Rattle.tv_spec_boxes.specs.Configurations.{boxes_left}
use Rattle.tv_cells.specs.Extras.{empty_legs}
use Rattle.std.proofs.lemmas.List.FromFn.{length-map-range_with_len}
use Rattle.tv_lemmas.proofs.Sums.{total-one}
use Rattle.tv_laws_counts.specs.Ways.{ways_at, assignment_sign, assignment_coefficient}
use Rattle.tv_laws_counts.proofs.CornerWays.{ways-start}
use Rattle.tv_laws_counts.proofs.SignedCounts.{signed_count_is}
use Rattle.tv_spec_series.specs.Reduced.{zero_coefficient}
use Rattle.tv_laws_families.specs.Laws.{BeginsWithOne}

-- the empty diagram on every edge
abbrev pub nothing : {A : Type 0} → List A → Assignment
nothing es = map (λ e. []) es

choices-none : (gs : List ℕ) → choices gs 0 ≡ nothing gs ∷ []
unfolding choices diagrams diagrams_within
choices-none [] = refl
choices-none (g ∷ gs) =
    let none : 0 * g ≡ 0 = omega arith in
    let left : 0 - 0 * g ≡ 0 = omega arith in
    rw none (ap (λ lists. (map (λ a. [] ∷ a) lists ++ []) ++ []) (ap (choices gs) left ∙ choices-none gs))

nothing-map : {A B : Type 0} (f : A → B) (es : List A) → nothing (map f es) ≡ nothing es
nothing-map f [] = refl
nothing-map f (e ∷ es) = ap (λ a. [] ∷ a) (nothing-map f es)

pub assignments-none : (w : Web) → assignments w 0 ≡ nothing (compact w) ∷ []
unfolding assignments
assignments-none w = choices-none (map (λ e. as_natural (edge_degree w e)) (compact w)) ∙ ap (λ a. a ∷ []) (nothing-map (λ e. as_natural (edge_degree w e)) (compact w))

pub times-none : (v : List ℤ) → times 0 v ≡ zeros (length v)
times-none [] = refl
times-none (x ∷ v) = let e : pos 0 *ℤ x ≡ pos 0 = omega (arith, ints) in rw (e, times-none v) refl

pub plus-zeros : (n : ℕ) → plus (zeros n) (zeros n) ≡ zeros n
plus-zeros zero = refl
plus-zeros (suc n) = ap (λ v. pos 0 ∷ v) (plus-zeros n)

pub class_on-nothing : (w : Web) (es : List CompactEdge) → class_on w es (nothing es) ≡ zeros (length w.points)
class_on-nothing w [] = refl
class_on-nothing w (e ∷ es) =
    let first = times-none (edge_class w e) ∙ ap zeros (length-map-range_with_len (class_entry w e) 0 (length w.points)) in
    rw (first, class_on-nothing w es) (plus-zeros (length w.points))

pub degree-zeros : (hs : List ℤ) (n : ℕ) → degree_of hs (zeros n) ≡ pos 0
degree-zeros [] n = refl
degree-zeros (h ∷ hs) zero = refl
degree-zeros (h ∷ hs) (suc n) = let e : h *ℤ pos 0 ≡ pos 0 = omega (arith, ints) in rw (e, degree-zeros hs n) refl

pub same-zeros : (n : ℕ) → same_vector (zeros n) (zeros n) ≡ true
same-zeros zero = refl
same-zeros (suc n) = same-zeros n

pub assignments_of-zero : (w : Web) → assignments_of w (zeros (length w.points)) ≡ nothing (compact w) ∷ []
assignments_of-zero w =
    let low = ap as_natural (degree-zeros w.heights (length w.points)) in
    let all = ap (assignments w) low ∙ assignments-none w in
    let fits : same_vector (class_of w (nothing (compact w))) (zeros (length w.points)) ≡ true = ap (λ v. same_vector v (zeros (length w.points))) (class_on-nothing w (compact w)) ∙ same-zeros (length w.points) in
    ap (filter (λ a. same_vector (class_of w a) (zeros (length w.points)))) all ∙ rw fits refl

costs-nothing : (w : Web) (es : List CompactEdge) → sum_on (cost_by w) es (nothing es) ≡ pos 0
unfolding rows_cost
costs-nothing w [] = refl
costs-nothing w (e ∷ es) = rw (costs-nothing w es) refl

twist-nothing : (w : Web) (es : List CompactEdge) → sum_on (twist_by w) es (nothing es) ≡ pos 0
twist-nothing w [] = refl
twist-nothing w (e ∷ es) = let z : normal_a w e *ℤ pos 0 ≡ pos 0 = times_zero (normal_a w e) in rw (z, twist-nothing w es) refl
  where
    times_zero : (x : ℤ) → x *ℤ pos 0 ≡ pos 0
    times_zero x = omega (arith, ints)

row-nothing : {A : Type 0} (es : List A) (k : ℕ) → slice_index_or (nothing es) k [] ≡ []
row-nothing [] k = refl
row-nothing (e ∷ es) zero = refl
row-nothing (e ∷ es) (suc k) = row-nothing es k

rows-nothing : (w : Web) (e : EdgeRef) → rows_at (nothing (compact w)) (no_legs w) e ≡ []
rows-nothing w (Compact k) = row-nothing (compact w) k
rows-nothing w (Outer k) = row-nothing (outer w) k

legs-nothing : (w : Web) (c : Corner) → legs_of (nothing (compact w)) (no_legs w) c ≡ empty_legs
legs-nothing w c = rw (rows-nothing w c.along_x, rows-nothing w c.along_y, rows-nothing w c.along_z) refl

pub overlaps-nothing : (w : Web) (cs : List Corner) → overlaps_of (map (legs_of (nothing (compact w)) (no_legs w)) cs) ≡ 0
overlaps-nothing w [] = refl
overlaps-nothing w (c ∷ cs) = rw (legs-nothing w c, no-overlap empty_legs refl, overlaps-nothing w cs) refl

left-nothing : (w : Web) (n : ℤ) → boxes_left w (no_legs w) (nothing (compact w)) n ≡ n
left-nothing w n = rw (costs-nothing w (compact w), overlaps-nothing w (corners w)) (omega (arith, ints))

sign-nothing : (w : Web) (n : ℤ) → assignment_sign w (nothing (compact w)) n ≡ sign n
sign-nothing w n = ap (λ s. sign (n +ℤ s)) (twist-nothing w (compact w)) ∙ ap sign (plus_zero n)
  where
    plus_zero : (x : ℤ) → x +ℤ pos 0 ≡ x
    plus_zero x = omega (arith, ints)

coefficient-nothing : (w : Web) (n : ℤ) → assignment_coefficient w (no_legs w) (nothing (compact w)) n ≡ sign n *ℤ pos (ways_at (all_legs w (nothing (compact w)) (no_legs w)) n)
unfolding assignment_coefficient
coefficient-nothing w n = rw (sign-nothing w n, left-nothing w n) refl

empty_diagrams : {A : Type 0} (es : List A) → AllByRecursion IsDiagram (nothing es)
empty_diagrams [] = tt
empty_diagrams (e ∷ es) = (tt, empty_diagrams es)

zero-class : (w : Web) (n : ℤ) → zero_coefficient w (no_legs w) n ≡ sign n *ℤ pos (ways_at (all_legs w (nothing (compact w)) (no_legs w)) n)
zero-class w n =
    signed_count_is w (no_legs w) (zeros (length w.points)) n (empty_diagrams (outer w))
    ∙ (ap (total (λ a. assignment_coefficient w (no_legs w) a n)) (assignments_of-zero w)
    ∙ (total-one (λ a. assignment_coefficient w (no_legs w) a n) (nothing (compact w)) ∙ coefficient-nothing w n))

pub begins_with_one : BeginsWithOne
begins_with_one w graded = record { unit = zero-class w (pos 0) ∙ rw (ways-start (all_legs w (nothing (compact w)) (no_legs w))) refl; none = λ n h. below n h }
  where
    times_zero : (x : ℤ) → x *ℤ pos 0 ≡ pos 0
    times_zero x = omega (arith, ints)

    below : (n : ℤ) → n <ℤ pos 0 → zero_coefficient w (no_legs w) n ≡ pos 0
    below (pos n) h = absurd (omega (arith, ints))
    below (negsuc n) h = zero-class w (negsuc n) ∙ times_zero (sign (negsuc n))
