-- What a state holds is bounded by the crowd of its class, and stands between the lowest and the greatest exponent kept.
use Rattle.std.specs.Prelude.{◌≡◌, Contains, ℕ, zero, suc, ◌+◌, ◌≤◌, Bool, true, false, ◌&&◌, int_le, ℤ, pos, negsuc, ◌+ℤ◌, ◌-ℤ◌, ◌≤ℤ◌, List, [], ◌∷◌, filter, length, take}
use Rattle.std.specs.List.{AllByRecursion}
use Rattle.std.proofs.Common.{refl, sym, ap, ◌∙◌, arith, le_trans}
use Rattle.std.proofs.lemmas.Int.{ints}
use Rattle.std.proofs.lemmas.Bool.{and_parts}
use Rattle.tv_lemmas.specs.Sums.{sum_of}
use Rattle.tv_lemmas.proofs.Sums.{sum_of-≤}
use Rattle.tv_lemmas.proofs.Members.{all-onto, all-filter, all-contains, all-members}
use Rattle.tv_lemmas.proofs.Naturals.{as_natural-above}
use Rattle.tv_spec_plane.specs.declared.records.CompactEdge.{CompactEdge}
use Rattle.tv_spec_plane.specs.Web.{Web, compact, degree_of}
use Rattle.tv_spec_plane.specs.Graded.{IsGraded}
use Rattle.tv_partition.specs.Rows.{IsDiagram}
use Rattle.tv_cells.specs.Extras.{count}
use Rattle.tv_spec_boxes.specs.Assignments.{Rows, Assignment, all_legs, class_of, assignments, sum_on, same_choice, same_vector}
use Rattle.tv_spec_boxes.specs.Numbers.{lowest, box_bound, crowd_at, in_degrees, crowd}
use Rattle.tv_spec_boxes.proofs.Vectors.{same_vector_tells}
use Rattle.tv_spec_partial.specs.Partial.{is_met, rests_on, chosen}
use Rattle.tv_laws_counts.specs.Ways.{convolved, ways, corner_ways, IsListed}
use Rattle.tv_laws_counts.proofs.Convolutions.{convolved-swap, convolved-≤}
use Rattle.tv_laws_counts.proofs.CornerWays.{front-next, ways-front}
use Rattle.tv_laws_counts.proofs.Crowds.{crowd_on-term, crowd_is}
use Rattle.tv_laws_counts.proofs.Degrees.{assignments_by_degree, assignments_listed}
use Rattle.tv_laws_counts.proofs.Fillings.{legs_are}
use Rattle.tv_laws_counts.proofs.SignedCounts.{assignments_have_diagrams}
use Rattle.tv_cells.specs.Extras.{empty_legs}
use Rattle.tv_laws_frontier.specs.Frontier.{only, start_after, corner_legs, kept_ways, at_number, kept_at, is_of_state, of_state, state_number, kept_upto}
use Rattle.tv_laws_frontier.specs.Bounds.{CrowdOfState}
use Rattle.tv_laws_frontier.proofs.Filters.{sum_of-fewer}
use Rattle.tv_laws_frontier.proofs.Picked.{rise_by, rise-least, rises-are}
use Rattle.tv_laws_frontier.proofs.Kept.{legs-long, through-less, fallen-lowest}

-- what is kept is no more than there is
pub kept-less : (w : Web) (fixed : List Rows) (m : ℤ) (a : Assignment) (t : ℕ) → t ≤ length w.triangles → (b : ℕ) → kept_ways w fixed m t a b ≤ corner_ways (take t (all_legs w a fixed)) b
unfolding kept_ways
kept-less w fixed m a zero within b = through-less m (start_after w fixed 0 a +ℤ pos b) (ways [] b)
kept-less w fixed m a (suc t) within b =
    let legs = all_legs w a fixed in
    let here = count (corner_legs w fixed t a) in
    let long = legs-long w fixed a in
    let up : t + 1 ≡ suc t = omega arith in
    let cut = through-less m (start_after w fixed (suc t) a +ℤ pos b) (convolved (kept_ways w fixed m t a) here b) in
    let fewer : convolved here (kept_ways w fixed m t a) b ≤ convolved here (corner_ways (take t legs)) b = convolved-≤ here (kept_ways w fixed m t a) (corner_ways (take t legs)) b (kept-less w fixed m a t (omega arith)) in
    let one = convolved-swap (kept_ways w fixed m t a) here b in
    let other = convolved-swap here (corner_ways (take t legs)) b in
    let next : corner_ways (take (suc t) legs) b ≡ convolved (corner_ways (take t legs)) here b = ap (λ s. corner_ways (take s legs) b) (sym up) ∙ front-next legs t b empty_legs (omega arith) in
    omega arith

rises-sum : (w : Web) (es : List CompactEdge) (a : Assignment) → pos 0 ≤ℤ sum_on (rise_by w) es a
rises-sum w [] a = omega (arith, ints)
rises-sum w (e ∷ es) [] = omega (arith, ints)
rises-sum w (e ∷ es) (d ∷ a) = omega (arith, ints, rise-least w e d, rises-sum w es a)

pub starts-above : (w : Web) (fixed : List Rows) (d t : ℕ) (a : Assignment) → Contains (assignments w d) a → lowest w fixed d ≤ℤ start_after w fixed t a
starts-above w fixed d t a among =
    let met = only (is_met t) (compact w) a in
    omega (arith, ints, fallen-lowest w fixed d t a among, rises-are w (compact w) met, rises-sum w (compact w) met)

number-crowd : (w : Web) (fixed : List Rows) (d t : ℕ) (n : ℤ) (a : Assignment) (z : ℤ) → AllByRecursion IsDiagram fixed → t ≤ length w.triangles → Contains (assignments w d) a → z ≤ℤ pos (box_bound n (lowest w fixed d)) → at_number (kept_ways w fixed (kept_upto w fixed d n) t a) z ≤ crowd_at w fixed d n a
number-crowd w fixed d t n a (pos b) also within among h =
    let diagrams = all-contains (λ (c : Assignment). AllByRecursion IsDiagram c) (assignments w d) a (assignments_have_diagrams w d) among in
    le_trans (kept-less w fixed (kept_upto w fixed d n) a t within b)
    (le_trans (ways-front t (all_legs w a fixed) b) (crowd_on-term (all_legs w a fixed) b (box_bound n (lowest w fixed d)) (legs_are w a fixed diagrams also) (omega (arith, ints))))
number-crowd w fixed d t n a (negsuc b) also within among h = omega arith

pub kept-crowd : (w : Web) (fixed : List Rows) (d t : ℕ) (i n : ℤ) → AllByRecursion IsDiagram fixed → t ≤ length w.triangles → i ≤ℤ kept_upto w fixed d n → (a : Assignment) → Contains (assignments w d) a → kept_at w fixed (kept_upto w fixed d n) t a i ≤ crowd_at w fixed d n a
kept-crowd w fixed d t i n also within h a among =
    let above = as_natural-above ((n -ℤ lowest w fixed d) -ℤ lowest w fixed d) in
    number-crowd w fixed d t n a (i -ℤ start_after w fixed t a) also within among (omega (arith, ints, starts-above w fixed d t a among))

state-members : (w : Web) (d t : ℕ) (k : List Rows) (v : List ℤ) → AllByRecursion (Contains (assignments w d)) (of_state w d t k v)
state-members w d t k v = all-filter (Contains (assignments w d)) (Contains (assignments w d)) (is_of_state w t k v) (λ a among on. among) (assignments w d) (all-members (assignments w d))

pub state-class : (w : Web) (t : ℕ) (k : List Rows) (v : List ℤ) (a : Assignment) → is_of_state w t k v a ≡ true → same_vector (class_of w a) v ≡ true
state-class w t k v a on =
    let parts = and_parts (rests_on t (compact w) a) (same_choice (chosen t (compact w) a) k && same_vector (class_of w a) v) on in
    (and_parts (same_choice (chosen t (compact w) a) k) (same_vector (class_of w a) v) parts.1).1

in-range : (x : ℤ) (d : ℕ) → (int_le (pos 0) x && int_le x (pos d)) ≡ true → (pos 0 ≤ℤ x) × (x ≤ℤ pos d)
in-range x d e = let parts = and_parts (int_le (pos 0) x) (int_le x (pos d)) e in (let p = parts.0 in grind (arith, ints), let q = parts.1 in grind (arith, ints))

out-range : (x : ℤ) (d : ℕ) → (int_le (pos 0) x && int_le x (pos d)) ≡ false → pos 0 ≤ℤ x → x ≤ℤ pos d → ⊥
out-range x d e h k = grind (arith, ints)

inside-crowd : (w : Web) (fixed : List Rows) (d t : ℕ) (k : List Rows) (v : List ℤ) (i n : ℤ) → IsGraded w → AllByRecursion IsDiagram fixed → t ≤ length w.triangles → i ≤ℤ kept_upto w fixed d n → pos 0 ≤ℤ degree_of w.heights v → degree_of w.heights v ≤ℤ pos d → state_number w fixed d (kept_upto w fixed d n) t k v i ≤ crowd w fixed d n v
unfolding state_number
inside-crowd w fixed d t k v i n graded also within h least most =
    let each = sum_of-≤ (λ a. kept_at w fixed (kept_upto w fixed d n) t a i) (crowd_at w fixed d n) (of_state w d t k v)
    (all-onto (Contains (assignments w d)) (λ a. kept_at w fixed (kept_upto w fixed d n) t a i ≤ crowd_at w fixed d n a) (kept-crowd w fixed d t i n also within h) (of_state w d t k v) (state-members w d t k v)) in
    let fewer = sum_of-fewer (crowd_at w fixed d n) (is_of_state w t k v) (λ a. same_vector (class_of w a) v) (state-class w t k v) (assignments w d) in
    let all : sum_of (crowd_at w fixed d n) (filter (λ a. same_vector (class_of w a) v) (assignments w d)) ≡ crowd w fixed d n v = ap (sum_of (crowd_at w fixed d n)) (sym (assignments_by_degree w d v graded most)) ∙ sym (crowd_is w fixed d n v least most) in
    omega arith

pub none-of : {A : Type 0} (f : A → ℕ) (xs : List A) → AllByRecursion (λ x. ⊥) xs → sum_of f xs ≡ 0
none-of f [] all = refl
none-of f (x ∷ xs) all = absurd all.0

-- no assignment of degree at most d has another degree
outside-none : (w : Web) (fixed : List Rows) (d : ℕ) (m : ℤ) (t : ℕ) (k : List Rows) (v : List ℤ) (i : ℤ) → IsGraded w → in_degrees w d v ≡ false → state_number w fixed d m t k v i ≡ 0
unfolding state_number
outside-none w fixed d m t k v i graded out =
    none-of (λ a. kept_at w fixed m t a i) (of_state w d t k v)
    (all-filter (IsListed w d) (λ (a : Assignment). ⊥) (is_of_state w t k v)
    (λ a is on. let class : class_of w a ≡ v = same_vector_tells (class_of w a) v (state-class w t k v a on) in
    out-range (degree_of w.heights v) d out (rw (sym class) is.least) (rw (sym class) is.most))
    (assignments w d) (assignments_listed w d graded))

pub crowd_of_state : CrowdOfState
crowd_of_state w fixed d t k v i n graded also within h = by_degree (in_degrees w d v) refl
  where
    by_degree : (b : Bool) → in_degrees w d v ≡ b → state_number w fixed d (kept_upto w fixed d n) t k v i ≤ crowd w fixed d n v
    by_degree true e = let range = in-range (degree_of w.heights v) d e in inside-crowd w fixed d t k v i n graded also within h range.0 range.1
    by_degree false e = let none = outside-none w fixed d (kept_upto w fixed d n) t k v i graded e in omega arith
