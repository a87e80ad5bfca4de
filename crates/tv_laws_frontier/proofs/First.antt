-- Before all corners there is one state, with 1 for the empty assignment.
use Rattle.std.specs.Prelude.{◌≡◌, Contains, ℕ, zero, suc, ◌+◌, Bool, true, false, cond, ◌&&◌, nat_eq, int_le, ℤ, pos, negsuc, ◌+ℤ◌, ◌-ℤ◌, List, [], ◌∷◌, map, filter, length}
use Rattle.std.specs.List.{AllByRecursion}
use Rattle.std.specs.Ordering.{int_eq}
use Rattle.std.proofs.Common.{refl, sym, ap, ◌∙◌, arith}
use Rattle.std.proofs.lemmas.Int.{ints}
use Rattle.std.proofs.lemmas.Bool.{and_parts}
use Rattle.std.proofs.lemmas.Bool.Decides.{nat_tests}
use Rattle.std.proofs.lemmas.List.{length-map}
use Rattle.tv_lemmas.specs.Naturals.{as_natural}
use Rattle.tv_lemmas.specs.Sums.{sum_of}
use Rattle.tv_lemmas.proofs.Members.{all-onto, all-members}
use Rattle.tv_partition.specs.Rows.{IsDiagram}
use Rattle.tv_spec_plane.specs.declared.records.CompactEdge.{CompactEdge}
use Rattle.tv_spec_plane.specs.Graded.{IsGraded}
use Rattle.tv_spec_plane.specs.Web.{Web, compact, edge_degree}
use Rattle.tv_spec_boxes.specs.Assignments.{Rows, Assignment, zeros, sum_on, cost_by, class_of, edge_costs, assignments, same_choice, same_vector}
use Rattle.tv_spec_boxes.proofs.Vectors.{part_by, at-class_on, length-class_of, length-zeros}
use Rattle.tv_spec_partial.specs.Partial.{is_met, is_pending, rests_on, chosen}
use Rattle.tv_laws_counts.specs.Ways.{ways}
use Rattle.tv_laws_counts.proofs.Assigned.{assignments_once}
use Rattle.tv_laws_counts.proofs.Choices.{degree_by}
use Rattle.tv_laws_frontier.specs.Frontier.{only, start_after, kept_ways, at_number, kept_at, is_of_state, state_number}
use Rattle.tv_laws_frontier.specs.Steps.{nothing}
use Rattle.tv_laws_frontier.specs.StepLaws.{FirstState}
use Rattle.tv_laws_frontier.proofs.Classes.{entries-same, part-empty}
use Rattle.tv_laws_frontier.proofs.Filters.{sum_of-same}
use Rattle.tv_laws_frontier.proofs.Parted.{once}
use Rattle.tv_laws_frontier.proofs.PartialSums.{only-resting}
use Rattle.tv_laws_frontier.proofs.Picked.{cost-empty}
use Rattle.tv_laws_frontier.proofs.Listed.{choice_equality, choice-listed, listed-long}

none-met : (e : CompactEdge) → is_met 0 e ≡ false
none-met e = grind (arith, nat_tests)

pub none-pending : (e : CompactEdge) → is_pending 0 e ≡ false
none-pending e = grind (arith, nat_tests)

only-nothing : (es : List CompactEdge) (a : Assignment) → length a ≡ length es → only (is_met 0) es a ≡ nothing es
only-nothing [] a long = refl
only-nothing (e ∷ es) [] long = absurd (omega arith)
only-nothing (e ∷ es) (d ∷ a) long = let off = none-met e in rw off (ap (λ b. [] ∷ b) (only-nothing es a (omega arith)))

pub rests-nothing : (es : List CompactEdge) → rests_on 0 es (nothing es) ≡ true
rests-nothing [] = refl
rests-nothing (e ∷ es) = let off = none-met e in let none : nat_eq 0 0 ≡ true = grind (arith, nat_tests) in rw (off, none) (rests-nothing es)

pub none-chosen : (es : List CompactEdge) (a : Assignment) → chosen 0 es a ≡ []
none-chosen [] a = refl
none-chosen (e ∷ es) [] = refl
none-chosen (e ∷ es) (d ∷ a) = let off = none-pending e in rw off (none-chosen es a)

sum-nothing : (f : CompactEdge → Rows → ℤ) → ((e : CompactEdge) → f e [] ≡ pos 0) → (es : List CompactEdge) → sum_on f es (nothing es) ≡ pos 0
sum-nothing f empty [] = refl
sum-nothing f empty (e ∷ es) = omega (arith, ints, empty e, sum-nothing f empty es)

pub nothing-long : (es : List CompactEdge) → length (nothing es) ≡ length es
nothing-long es = length-map es (λ e. [])

pub nothing-diagrams : (es : List CompactEdge) → AllByRecursion IsDiagram (nothing es)
nothing-diagrams [] = tt
nothing-diagrams (e ∷ es) = (tt, nothing-diagrams es)

nothing-degree : (f : CompactEdge → ℕ) (es : List CompactEdge) → degree_by (map f es) (nothing es) ≡ 0
nothing-degree f [] = refl
nothing-degree f (e ∷ es) = let rest = nothing-degree f es in omega arith

pub nothing-listed : (w : Web) (d : ℕ) → IsGraded w → Contains (assignments w d) (nothing (compact w))
nothing-listed w d graded =
    let none = nothing-degree (λ e. as_natural (edge_degree w e)) (compact w) in
    choice-listed w d (nothing (compact w)) graded (record {
      one_each = nothing-long (compact w) ∙ sym (length-map (compact w) (λ e. as_natural (edge_degree w e)));
      diagrams = nothing-diagrams (compact w);
      within = omega arith;
    })

pub nothing-class : (w : Web) → class_of w (nothing (compact w)) ≡ zeros (length w.points)
nothing-class w =
    entries-same (class_of w (nothing (compact w))) (zeros (length w.points)) (length-class_of w (nothing (compact w)) ∙ sym (length-zeros (length w.points)))
    (λ k. at-class_on w (compact w) (nothing (compact w)) k ∙ (sum-nothing (part_by w k) (part-empty w k) (compact w) ∙ sym (at-class_on w [] [] k)))

start-nothing : (w : Web) (fixed : List Rows) → start_after w fixed 0 (nothing (compact w)) ≡ pos 0
start-nothing w fixed =
    let costs : edge_costs w (only (is_met 0) (compact w) (nothing (compact w))) ≡ pos 0 = ap (edge_costs w) (only-nothing (compact w) (nothing (compact w)) (nothing-long (compact w))) ∙ sum-nothing (cost_by w) (cost-empty w) (compact w) in
    omega (arith, ints)

at-start : (w : Web) (fixed : List Rows) (m i z : ℤ) (s : ℤ) → s ≡ pos 0 → i ≡ s +ℤ z → at_number (λ b. cond (int_le (s +ℤ pos b) m) (cond (nat_eq b 0) 1 0) 0) z ≡ cond (int_eq i (pos 0) && int_le (pos 0) m) 1 0
at-start w fixed m i (pos zero) s e f =
    let is : i ≡ pos 0 = omega (arith, ints) in let same : s +ℤ pos 0 ≡ pos 0 = omega (arith, ints) in
    rw (is, same) (by_test (int_le (pos 0) m))
  where
    by_test : (b : Bool) → cond {A = ℕ} b 1 0 ≡ cond (true && b) 1 0
    by_test true = refl
    by_test false = refl
at-start w fixed m i (pos (suc b)) s e f =
    let off : int_eq i (pos 0) ≡ false = grind (arith, ints) in
    let none : nat_eq (suc b) 0 ≡ false = grind (arith, nat_tests) in
    rw (off, none) (by_test (int_le (s +ℤ pos (suc b)) m))
  where
    by_test : (c : Bool) → cond {A = ℕ} c 0 0 ≡ 0
    by_test true = refl
    by_test false = refl
at-start w fixed m i (negsuc b) s e f = let off : int_eq i (pos 0) ≡ false = grind (arith, ints) in rw off refl

kept-nothing : (w : Web) (fixed : List Rows) (m i : ℤ) → kept_at w fixed m 0 (nothing (compact w)) i ≡ cond (int_eq i (pos 0) && int_le (pos 0) m) 1 0
unfolding kept_ways ways
kept-nothing w fixed m i = at-start w fixed m i (i -ℤ start_after w fixed 0 (nothing (compact w))) (start_after w fixed 0 (nothing (compact w))) (start-nothing w fixed) (omega (arith, ints))

sum-filter : {A : Type 0} (f : A → ℕ) (p : A → Bool) (xs : List A) → sum_of f (filter p xs) ≡ sum_of (λ x. cond (p x) (f x) 0) xs
sum-filter f p [] = refl
sum-filter f p (x ∷ xs) = let rest = sum-filter f p xs in elim (p x) as (λ b. sum_of f (cond b (x ∷ filter p xs) (filter p xs)) ≡ cond b (f x) 0 + sum_of (λ x. cond (p x) (f x) 0) xs) [ true ↦ omega arith | false ↦ omega arith ]

module _ (w : Web) (fixed : List Rows) (d : ℕ) (m : ℤ) (v : List ℤ) (i : ℤ) (graded : IsGraded w) where
  abbrev pub none : Assignment
  none = nothing (compact w)

  abbrev number : ℕ
  number = cond (same_vector (zeros (length w.points)) v) (kept_at w fixed m 0 none i) 0

  pub of-nothing : is_of_state w 0 [] v none ≡ same_vector (zeros (length w.points)) v
  of-nothing =
      ap (λ b. b && (same_choice (chosen 0 (compact w) none) [] && same_vector (class_of w none) v)) (rests-nothing (compact w))
      ∙ (ap (λ ds. same_choice ds [] && same_vector (class_of w none) v) (none-chosen (compact w) none)
      ∙ ap (λ u. same_vector u v) (nothing-class w))

  pub is-nothing : (a : Assignment) → Contains (assignments w d) a → is_of_state w 0 [] v a ≡ true → none ≡ a
  is-nothing a among on =
      let parts = and_parts (rests_on 0 (compact w) a) (same_choice (chosen 0 (compact w) a) [] && same_vector (class_of w a) v) on in
      let long = listed-long w d a among in
      sym (only-nothing (compact w) a long) ∙ only-resting 0 (compact w) a long parts.0

  one-of : (a : Assignment) → Contains (assignments w d) a → (b c : Bool) → same_choice none a ≡ b → is_of_state w 0 [] v a ≡ c → cond c (kept_at w fixed m 0 a i) 0 ≡ cond b number 0
  one-of a among true c e f =
      let is : none ≡ a = choice_equality.tells none a e in
      ap (λ x. cond x (kept_at w fixed m 0 a i) 0) (sym f ∙ (ap (is_of_state w 0 [] v) (sym is) ∙ of-nothing))
      ∙ ap (λ x. cond (same_vector (zeros (length w.points)) v) (kept_at w fixed m 0 x i) 0) (sym is)
  one-of a among false true e f = absurd (let is = is-nothing a among f in let yes : same_choice none a ≡ true = ap (same_choice none) (sym is) ∙ choice_equality.own none in let no : false ≡ true = sym e ∙ yes in cc)
  one-of a among false false e f = refl

  first : state_number w fixed d m 0 [] v i ≡ number
  unfolding state_number
  first =
      sum-filter (λ a. kept_at w fixed m 0 a i) (is_of_state w 0 [] v) (assignments w d)
      ∙ (sum_of-same (λ a. cond (is_of_state w 0 [] v a) (kept_at w fixed m 0 a i) 0) (λ a. cond (same_choice none a) number 0) (assignments w d)
      (all-onto (Contains (assignments w d)) (λ a. cond (is_of_state w 0 [] v a) (kept_at w fixed m 0 a i) 0 ≡ cond (same_choice none a) number 0) (λ a among. one-of a among (same_choice none a) (is_of_state w 0 [] v a) refl refl) (assignments w d) (all-members (assignments w d)))
      ∙ once same_choice choice_equality number none (assignments w d) (assignments_once w d) (nothing-listed w d graded))

both-tests : (b c : Bool) (k : ℕ) → k ≡ cond c 1 0 → cond b k 0 ≡ cond (b && c) 1 0
both-tests true c k e = e
both-tests false c k e = refl

pub first_state : FirstState
first_state w fixed d m v i graded =
    first w fixed d m v i graded
    ∙ both-tests (same_vector (zeros (length w.points)) v) (int_eq i (pos 0) && int_le (pos 0) m) (kept_at w fixed m 0 (nothing (compact w)) i) (kept-nothing w fixed m i)
