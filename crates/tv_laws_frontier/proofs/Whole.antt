-- Once all corners are taken, the one state has the signed counts.
use Rattle.std.specs.Prelude.{◌≡◌, ℕ, true, ◌&&◌, nat_lt, ℤ, pos, ◌-ℤ◌, ◌*ℤ◌, ◌≤ℤ◌, List, [], ◌∷◌, length, take}
use Rattle.std.specs.List.{AllByRecursion}
use Rattle.std.proofs.Common.{refl, sym, ap, ◌∙◌, arith, take_all}
use Rattle.std.proofs.lemmas.Int.{ints}
use Rattle.tv_lemmas.specs.Sums.{total}
use Rattle.tv_lemmas.proofs.Sums.{total-same}
use Rattle.tv_lemmas.proofs.Members.{all-onto, all-contains}
use Rattle.tv_spec_plane.specs.declared.records.CompactEdge.{CompactEdge}
use Rattle.tv_spec_plane.specs.Web.{Web, compact}
use Rattle.tv_spec_plane.specs.Graded.{IsGraded}
use Rattle.tv_spec_boxes.specs.Assignments.{Rows, Assignment, all_legs, class_of, edge_costs, overlaps_of, assignments, same_choice, same_vector}
use Rattle.tv_spec_boxes.specs.Configurations.{boxes_left}
use Rattle.tv_spec_partial.specs.Partial.{is_met, rests_on, chosen}
use Rattle.tv_laws_counts.specs.Ways.{ways_at, assignment_sign, assignment_coefficient, IsListed}
use Rattle.tv_laws_counts.proofs.Degrees.{assignments_by_degree, assignments_listed}
use Rattle.tv_laws_counts.proofs.SignedCounts.{signed_count_is}
use Rattle.tv_laws_signs.proofs.Whole.{compact_inside, IsInside, rests, nothing_chosen}
use Rattle.tv_laws_frontier.specs.Frontier.{only, start_after, kept_at, is_of_state, of_state, state_sum, kept_upto}
use Rattle.tv_laws_frontier.specs.Laws.{WholeIsState}
use Rattle.tv_laws_frontier.proofs.Filters.{filter-alike}
use Rattle.tv_laws_frontier.proofs.Kept.{legs-long, kept_are_all}
use Rattle.tv_laws_frontier.proofs.PartialSums.{IsResting, only-resting, state-rests}

pub of_class : (w : Web) (v : List ℤ) (a : Assignment) → is_of_state w (length w.triangles) [] v a ≡ same_vector (class_of w a) v
of_class w v a =
    ap (λ b. b && (same_choice (chosen (length w.triangles) (compact w) a) [] && same_vector (class_of w a) v)) (rests (length w.triangles) (compact w) a (compact_inside w))
    ∙ ap (λ ds. same_choice ds [] && same_vector (class_of w a) v) (nothing_chosen (length w.triangles) (compact w) a (compact_inside w))

coefficient-is : (w : Web) (fixed : List Rows) (d : ℕ) (i n : ℤ) → IsGraded w → i ≤ℤ n → (a : Assignment) → IsResting w d (length w.triangles) a → assignment_sign w a i *ℤ pos (kept_at w fixed (kept_upto w fixed d n) (length w.triangles) a i) ≡ assignment_coefficient w fixed a i
unfolding assignment_coefficient
coefficient-is w fixed d i n graded h a is =
    let t = length w.triangles in
    let legs = all_legs w a fixed in
    let listed = all-contains (IsListed w d) (assignments w d) a (assignments_listed w d graded) is.among in
    let long = legs-long w fixed a in
    let all : take t legs ≡ legs = take_all t legs (omega arith) in
    let whole : only (is_met t) (compact w) a ≡ a = only-resting t (compact w) a listed.one_each is.rests in
    let costs : edge_costs w (only (is_met t) (compact w) a) ≡ edge_costs w a = ap (edge_costs w) whole in
    let overlaps : overlaps_of (take t legs) ≡ overlaps_of legs = ap overlaps_of all in
    let boxes : i -ℤ start_after w fixed t a ≡ boxes_left w fixed a i = omega (arith, ints) in
    ap (λ m. assignment_sign w a i *ℤ pos m)
    (kept_are_all w fixed d t a i n is.among (omega arith) h ∙ (ap (λ ls. ways_at ls (i -ℤ start_after w fixed t a)) all ∙ ap (ways_at legs) boxes))

pub whole_is_state : WholeIsState
unfolding state_sum
whole_is_state w fixed d v i n graded also most h =
    total-same (λ a. assignment_sign w a i *ℤ pos (kept_at w fixed (kept_upto w fixed d n) (length w.triangles) a i)) (λ a. assignment_coefficient w fixed a i) (of_state w d (length w.triangles) [] v)
    (all-onto (IsResting w d (length w.triangles)) (λ a. assignment_sign w a i *ℤ pos (kept_at w fixed (kept_upto w fixed d n) (length w.triangles) a i) ≡ assignment_coefficient w fixed a i)
    (coefficient-is w fixed d i n graded h) (of_state w d (length w.triangles) [] v) (state-rests w d (length w.triangles) [] v))
    ∙ (ap (total (λ a. assignment_coefficient w fixed a i)) (filter-alike (is_of_state w (length w.triangles) [] v) (λ a. same_vector (class_of w a) v) (of_class w v) (assignments w d) ∙ sym (assignments_by_degree w d v graded most))
    ∙ sym (signed_count_is w fixed v i also))
