-- Through n the sums of a state are the partial sums.
use Rattle.std.specs.Prelude.{◌≡◌, Contains, ℕ, ◌≤◌, Bool, true, false, cond, ◌&&◌, ◌||◌, ℤ, pos, ◌+ℤ◌, ◌-ℤ◌, ◌*ℤ◌, ◌≤ℤ◌, List, [], ◌∷◌, map, filter, length}
use Rattle.std.specs.List.{flat_map, AllByRecursion}
use Rattle.std.proofs.Common.{refl, sym, ap, ◌∙◌, arith}
use Rattle.std.proofs.lemmas.Int.{ints}
use Rattle.std.proofs.lemmas.Bool.{and_parts}
use Rattle.std.proofs.lemmas.Bool.Decides.{nat_tests}
use Rattle.std.proofs.lemmas.List.{length-map}
use Rattle.tv_lemmas.specs.Sums.{total}
use Rattle.tv_lemmas.proofs.Sums.{total-flat_map, total-same, total-alike}
use Rattle.tv_lemmas.proofs.Members.{all-any, all-onto, all-map, all-filter, all-contains, all-members}
use Rattle.tv_lemmas.proofs.Lists.{filter-flat_map, flat_map-same, flat_map-filter}
use Rattle.tv_spec_plane.specs.declared.records.CompactEdge.{CompactEdge}
use Rattle.tv_spec_plane.specs.declared.records.OuterEdge.{OuterEdge}
use Rattle.tv_spec_plane.specs.Web.{Web, compact, outer, degree_of, sign}
use Rattle.tv_spec_plane.specs.Graded.{IsGraded}
use Rattle.tv_partition.specs.Rows.{IsDiagram}
use Rattle.tv_cells.specs.declared.cell.Cell.{Cell}
use Rattle.tv_cells.specs.Extras.{AreDiagrams}
use Rattle.tv_spec_boxes.specs.Assignments.{Rows, Assignment, no_legs, all_legs, class_of, edge_costs, edge_twist, assignments, assignments_of, same_choice, same_vector}
use Rattle.tv_spec_boxes.specs.Configurations.{Configuration, configuration, fillings_of, boxes_of}
use Rattle.tv_spec_partial.specs.Partial.{is_met, is_empty, rests_on, chosen, first_legs, partial_boxes_left, partial_on, partial_configurations, partial_chi, partial_sign, partial_count}
use Rattle.tv_laws_counts.specs.Ways.{ways_at, assignment_sign, IsListed}
use Rattle.tv_laws_counts.proofs.Degrees.{assignments_by_degree, assignments_listed}
use Rattle.tv_laws_counts.proofs.Fillings.{legs_are, fillings_of_counted}
use Rattle.tv_laws_counts.proofs.SignedCounts.{assignments_have_diagrams}
use Rattle.tv_laws_frontier.specs.Frontier.{only, start_after, kept_at, is_of_state, of_state, state_number, state_sum, kept_upto}
use Rattle.tv_laws_frontier.specs.Laws.{KeptArePartial, KeptAreCounted}
use Rattle.tv_laws_frontier.proofs.Filled.{fillings_of-full, all-front_of}
use Rattle.tv_laws_frontier.proofs.Filters.{filter-both, filter-alike, length-flat_map, sum_of-same}
use Rattle.tv_laws_frontier.proofs.Kept.{kept_are_all}

-- ---- assignments that rest on the met edges

pub empty-rows : (d : Rows) → is_empty d ≡ true → d ≡ []
empty-rows [] e = refl
empty-rows (row ∷ d) e = absurd (let none : ⊥ = grind (arith, nat_tests) in none)

picked-itself : (d : Rows) (b : Bool) → (b || is_empty d) ≡ true → cond b d [] ≡ d
picked-itself d true h = refl
picked-itself d false h = sym (empty-rows d h)

pub only-resting : (t : ℕ) (es : List CompactEdge) (a : Assignment) → length a ≡ length es → rests_on t es a ≡ true → only (is_met t) es a ≡ a
only-resting t [] [] e h = refl
only-resting t [] (d ∷ a) e h = absurd (omega arith)
only-resting t (e ∷ es) [] long h = refl
only-resting t (e ∷ es) (d ∷ a) long h =
    let parts = and_parts (is_met t e || is_empty d) (rests_on t es a) h in
    ap (λ x. x ∷ only (is_met t) es a) (picked-itself d (is_met t e) parts.0) ∙ ap (λ b. d ∷ b) (only-resting t es a (omega arith) parts.1)

-- ---- the partial configurations of a choice

abbrev of_choice : Web → ℕ → List Rows → Configuration → Bool
of_choice w t k c = same_choice (chosen t (compact w) c.diagrams) k

abbrev has_choice : Web → ℕ → List Rows → Assignment → Bool
has_choice w t k a = same_choice (chosen t (compact w) a) k

on-choice : (w : Web) (t : ℕ) (k : List Rows) (a : Assignment) (b : Bool) → has_choice w t k a ≡ b → (sets : List (List (List Cell))) → filter (of_choice w t k) (map (configuration a) sets) ≡ cond b (map (configuration a) sets) []
on-choice w t k a true e [] = refl
on-choice w t k a false e [] = refl
on-choice w t k a true e (x ∷ sets) = rw e (ap (λ cs. configuration a x ∷ cs) (on-choice w t k a true e sets))
on-choice w t k a false e (x ∷ sets) = rw e (on-choice w t k a false e sets)

by_choice : (w : Web) (t : ℕ) (k : List Rows) (i : ℤ) (bs : List Assignment) → filter (of_choice w t k) (flat_map (λ a. partial_on w t a i) bs) ≡ flat_map (λ a. partial_on w t a i) (filter (has_choice w t k) bs)
by_choice w t k i bs =
    filter-flat_map (of_choice w t k) (λ a. partial_on w t a i) bs
    ∙ (flat_map-same (λ a. filter (of_choice w t k) (partial_on w t a i)) (λ a. cond (has_choice w t k a) (partial_on w t a i) [])
    (λ a. on-choice w t k a (has_choice w t k a) refl (fillings_of (first_legs w t a) (partial_boxes_left w t a i))) bs
    ∙ sym (flat_map-filter (has_choice w t k) (λ a. partial_on w t a i) bs))

in-turn : (a b c : Bool) → ((c && a) && b) ≡ (a && (b && c))
in-turn true true true = refl
in-turn true true false = refl
in-turn true false true = refl
in-turn true false false = refl
in-turn false true true = refl
in-turn false true false = refl
in-turn false false true = refl
in-turn false false false = refl

-- of what is met, of the choice, of the class
state-listed : (w : Web) (d t : ℕ) (k : List Rows) (v : List ℤ) → IsGraded w → degree_of w.heights v ≤ℤ pos d → filter (has_choice w t k) (filter (rests_on t (compact w)) (assignments_of w v)) ≡ of_state w d t k v
state-listed w d t k v graded most =
    ap (λ bs. filter (has_choice w t k) (filter (rests_on t (compact w)) bs)) (assignments_by_degree w d v graded most)
    ∙ (ap (filter (has_choice w t k)) (filter-both (rests_on t (compact w)) (λ a. same_vector (class_of w a) v) (assignments w d))
    ∙ (filter-both (has_choice w t k) (λ a. same_vector (class_of w a) v && rests_on t (compact w) a) (assignments w d)
    ∙ filter-alike (λ a. (same_vector (class_of w a) v && rests_on t (compact w) a) && has_choice w t k a) (is_of_state w t k v) (λ a. in-turn (rests_on t (compact w) a) (has_choice w t k a) (same_vector (class_of w a) v)) (assignments w d)))

pub choice-listed : (w : Web) (d t : ℕ) (k : List Rows) (v : List ℤ) (i : ℤ) → IsGraded w → degree_of w.heights v ≤ℤ pos d → filter (of_choice w t k) (partial_configurations w t v i) ≡ flat_map (λ a. partial_on w t a i) (of_state w d t k v)
choice-listed w d t k v i graded most =
    by_choice w t k i (filter (rests_on t (compact w)) (assignments_of w v))
    ∙ ap (flat_map (λ a. partial_on w t a i)) (state-listed w d t k v graded most)

-- ---- those with one assignment

pub record IsResting (w : Web) (d t : ℕ) (a : Assignment) : Type 0 where
  pub among : Contains (assignments w d) a
  pub rests : rests_on t (compact w) a ≡ true

pub state-rests : (w : Web) (d t : ℕ) (k : List Rows) (v : List ℤ) → AllByRecursion (IsResting w d t) (of_state w d t k v)
state-rests w d t k v =
    all-filter (Contains (assignments w d)) (IsResting w d t) (is_of_state w t k v)
    (λ a among on. record { among = among; rests = (and_parts (rests_on t (compact w) a) (has_choice w t k a && same_vector (class_of w a) v) on).0 })
    (assignments w d) (all-members (assignments w d))

pub left-is : (w : Web) (d t : ℕ) (a : Assignment) (i : ℤ) → IsGraded w → IsResting w d t a → partial_boxes_left w t a i ≡ i -ℤ start_after w (no_legs w) t a
left-is w d t a i graded is =
    let listed = all-contains (IsListed w d) (assignments w d) a (assignments_listed w d graded) is.among in
    let whole : only (is_met t) (compact w) a ≡ a = only-resting t (compact w) a listed.one_each is.rests in
    let costs : edge_costs w (only (is_met t) (compact w) a) ≡ edge_costs w a = ap (edge_costs w) whole in
    omega (arith, ints)

pub no_diagrams : (w : Web) → AllByRecursion IsDiagram (no_legs w)
no_diagrams w = all-map (λ (e : OuterEdge). Unit {0}) IsDiagram (λ e. []) (λ e none. tt) (outer w) (all-any (λ (e : OuterEdge). Unit {0}) (λ e. tt) (outer w))

on-counted : (w : Web) (d t : ℕ) (i n : ℤ) → IsGraded w → t ≤ length w.triangles → i ≤ℤ n → (a : Assignment) → IsResting w d t a → kept_at w (no_legs w) (kept_upto w (no_legs w) d n) t a i ≡ length (partial_on w t a i)
on-counted w d t i n graded within h a is =
    let diagrams = all-contains (λ (b : Assignment). AllByRecursion IsDiagram b) (assignments w d) a (assignments_have_diagrams w d) is.among in
    let legs = legs_are w a (no_legs w) diagrams (no_diagrams w) in
    kept_are_all w (no_legs w) d t a i n is.among within h
    ∙ (ap (ways_at (first_legs w t a)) (sym (left-is w d t a i graded is))
    ∙ (sym (fillings_of_counted (first_legs w t a) (partial_boxes_left w t a i) (all-front_of AreDiagrams t (all_legs w a (no_legs w)) legs))
    ∙ sym (length-map (fillings_of (first_legs w t a) (partial_boxes_left w t a i)) (configuration a))))

pub signs-on : (w : Web) (t : ℕ) (i : ℤ) (a : Assignment) → AllByRecursion (λ c. partial_sign w t c ≡ assignment_sign w a i) (partial_on w t a i)
signs-on w t i a =
    all-map (λ (sets : List (List Cell)). pos (boxes_of sets) ≡ partial_boxes_left w t a i) (λ c. partial_sign w t c ≡ assignment_sign w a i) (configuration a)
    (λ sets full. let chi : partial_chi w t (configuration a sets) ≡ i = omega (arith, ints, full) in ap (λ z. sign (z +ℤ edge_twist w a)) chi)
    (fillings_of (first_legs w t a) (partial_boxes_left w t a i)) (fillings_of-full (first_legs w t a) (partial_boxes_left w t a i))

on-signed : (w : Web) (t : ℕ) (i : ℤ) (a : Assignment) → total (partial_sign w t) (partial_on w t a i) ≡ assignment_sign w a i *ℤ pos (length (partial_on w t a i))
on-signed w t i a = total-alike (partial_sign w t) (assignment_sign w a i) (partial_on w t a i) (signs-on w t i a)

pub kept_are_counted : KeptAreCounted
unfolding state_number
kept_are_counted w d t k v i n graded most within h =
    sum_of-same (λ a. kept_at w (no_legs w) (kept_upto w (no_legs w) d n) t a i) (λ a. length (partial_on w t a i)) (of_state w d t k v)
    (all-onto (IsResting w d t) (λ a. kept_at w (no_legs w) (kept_upto w (no_legs w) d n) t a i ≡ length (partial_on w t a i)) (on-counted w d t i n graded within h) (of_state w d t k v) (state-rests w d t k v))
    ∙ (sym (length-flat_map (λ a. partial_on w t a i) (of_state w d t k v))
    ∙ ap length (sym (choice-listed w d t k v i graded most)))

pub kept_are_partial : KeptArePartial
unfolding state_sum partial_count
kept_are_partial w d t k v i n graded most within h =
    total-same (λ a. assignment_sign w a i *ℤ pos (kept_at w (no_legs w) (kept_upto w (no_legs w) d n) t a i)) (λ a. total (partial_sign w t) (partial_on w t a i)) (of_state w d t k v)
    (all-onto (IsResting w d t) (λ a. assignment_sign w a i *ℤ pos (kept_at w (no_legs w) (kept_upto w (no_legs w) d n) t a i) ≡ total (partial_sign w t) (partial_on w t a i))
    (λ a is. ap (λ m. assignment_sign w a i *ℤ pos m) (on-counted w d t i n graded within h a is) ∙ sym (on-signed w t i a)) (of_state w d t k v) (state-rests w d t k v))
    ∙ (sym (total-flat_map (partial_sign w t) (λ a. partial_on w t a i) (of_state w d t k v))
    ∙ ap (total (partial_sign w t)) (sym (choice-listed w d t k v i graded most)))
