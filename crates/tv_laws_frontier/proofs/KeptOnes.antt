-- What a state holds is counted by the partial configurations that are kept.
use Rattle.std.specs.Prelude.{◌≡◌, ℕ, zero, suc, ◌+◌, ◌≤◌, Bool, true, false, cond, ◌&&◌, nat_eq, int_le, ℤ, pos, negsuc, ◌+ℤ◌, ◌-ℤ◌, ◌*ℤ◌, ◌≤ℤ◌, List, [], ◌∷◌, ◌++◌, filter, length, take}
use Rattle.std.specs.List.{flat_map, AllByRecursion}
use Rattle.std.proofs.Common.{refl, sym, ap, ◌∙◌, arith}
use Rattle.std.proofs.lemmas.Int.{ints}
use Rattle.std.proofs.lemmas.Bool.Decides.{nat_tests}
use Rattle.std.proofs.lemmas.List.{take_more, length-map}
use Rattle.tv_lemmas.specs.Sums.{total}
use Rattle.tv_lemmas.proofs.Lists.{filter-map, filter-flat_map, filter-same_on}
use Rattle.tv_lemmas.proofs.Members.{all-any, all-onto, all-filter, all-contains, all-at}
use Rattle.tv_lemmas.proofs.Sums.{total-flat_map, total-same, total-alike}
use Rattle.tv_spec_plane.specs.declared.records.CompactEdge.{CompactEdge}
use Rattle.tv_spec_plane.specs.Graded.{IsGraded}
use Rattle.tv_spec_plane.specs.Web.{Web, compact, degree_of}
use Rattle.tv_partition.specs.Rows.{IsDiagram}
use Rattle.tv_cells.specs.declared.cell.Cell.{Cell}
use Rattle.tv_cells.specs.declared.legs.Legs.{Legs}
use Rattle.tv_cells.specs.Extras.{AreDiagrams, count, empty_legs}
use Rattle.tv_spec_boxes.specs.Assignments.{Rows, Assignment, no_legs, all_legs, overlaps_of, assignments, same_choice}
use Rattle.tv_spec_boxes.specs.Configurations.{configuration, fillings, fillings_of, boxes_of}
use Rattle.tv_spec_partial.specs.Partial.{is_met, chosen, first_legs, partial_boxes_left, partial_on, partial_configurations, partial_chi, partial_sign}
use Rattle.tv_laws_counts.specs.Ways.{ways, assignment_sign}
use Rattle.tv_laws_counts.proofs.Convolutions.{convolved-same}
use Rattle.tv_laws_counts.proofs.Fillings.{legs_are}
use Rattle.tv_laws_counts.proofs.SignedCounts.{assignments_have_diagrams}
use Rattle.tv_laws_frontier.specs.Frontier.{only, start_after, corner_legs, through, kept_ways, at_number, kept_at, of_state, state_number, state_sum, kept_upto}
use Rattle.tv_laws_frontier.specs.Kept.{restricted, is_low, is_kept, kept_configurations}
use Rattle.tv_laws_frontier.specs.Laws.{KeptOnes, KeptOnesSigned, ThroughAreKept}
use Rattle.tv_laws_frontier.proofs.Agreeing.{Agrees}
use Rattle.tv_laws_frontier.proofs.Corners.{front-agrees}
use Rattle.tv_laws_frontier.proofs.Filled.{HasShape, fillings-shaped, all-front_of}
use Rattle.tv_laws_frontier.proofs.Filters.{length-flat_map, sum_of-same}
use Rattle.tv_laws_frontier.proofs.Kept.{legs-long}
use Rattle.tv_laws_frontier.proofs.KeptTest.{passes, passes-front, passes-last}
use Rattle.tv_laws_frontier.proofs.LastCorner.{last-corner}
use Rattle.tv_laws_frontier.proofs.PartialSums.{IsResting, state-rests, choice-listed, left-is, no_diagrams, signs-on, kept_are_counted}
use Rattle.tv_laws_frontier.proofs.Listed.{listed-long}
use Rattle.tv_laws_frontier.proofs.Resting.{touching-met}

-- ---- fillings that pass

length-front : {A : Type 0} (t : ℕ) (xs : List A) → t ≤ length xs → length (take t xs) ≡ t
length-front zero xs h = refl
length-front (suc t) [] h = absurd (omega arith)
length-front (suc t) (x ∷ xs) h = ap suc (length-front t xs (omega arith))

-- a test that is the same for each
with-same : {A : Type 0} (p : A → Bool) (b : Bool) (xs : List A) → length (filter (λ x. p x && b) xs) ≡ cond b (length (filter p xs)) 0
with-same p true [] = refl
with-same p false [] = refl
with-same p true (x ∷ xs) = let rest = with-same p true xs in elim (p x) as (λ c. length (cond (c && true) (x ∷ filter (λ y. p y && true) xs) (filter (λ y. p y && true) xs)) ≡ length (cond c (x ∷ filter p xs) (filter p xs))) [ true ↦ ap suc rest | false ↦ rest ]
with-same p false (x ∷ xs) = let rest = with-same p false xs in elim (p x) as (λ c. length (cond (c && false) (x ∷ filter (λ y. p y && false) xs) (filter (λ y. p y && false) xs)) ≡ 0) [ true ↦ rest | false ↦ rest ]

module _ (w : Web) (m : ℤ) (a : Assignment) (diagrams : AllByRecursion IsDiagram a) where
  abbrev legs : List Legs
  legs = all_legs w a (no_legs w)

  legs-diagrams : AllByRecursion AreDiagrams legs
  legs-diagrams = legs_are w a (no_legs w) diagrams (no_diagrams w)

  abbrev number : ℕ → ℕ → ℕ → ℕ
  number t side b = length (filter (passes w m t a) (fillings (take t legs) side b))

  start-number : (side b : ℕ) → length (filter (passes w m 0 a) (fillings [] side b)) ≡ through m (start_after w (no_legs w) 0 a +ℤ pos b) (ways [] b)
  unfolding passes fillings ways
  start-number side zero = by_test (int_le (start_after w (no_legs w) 0 a +ℤ pos 0) m)
    where
      by_test : (c : Bool) → length (cond {A = List (List (List Cell))} c ([] ∷ []) []) ≡ cond {A = ℕ} c 1 0
      by_test true = refl
      by_test false = refl
  start-number side (suc b) = let none : nat_eq (suc b) 0 ≡ false = grind (arith, nat_tests) in rw none (by_test (int_le (start_after w (no_legs w) 0 a +ℤ pos (suc b)) m))
    where
      by_test : (c : Bool) → 0 ≡ cond {A = ℕ} c 0 0
      by_test true = refl
      by_test false = refl

  kept-number : (t : ℕ) → t ≤ length w.triangles → (side b : ℕ) → b ≤ side → kept_ways w (no_legs w) m t a b ≡ number t side b
  unfolding kept_ways
  kept-number zero within side b h = sym (start-number side b)
  kept-number (suc t) within side b h =
      let long = legs-long w (no_legs w) a in
      let up : t + 1 ≡ suc t = omega arith in
      let here = corner_legs w (no_legs w) t a in
      let low = int_le (start_after w (no_legs w) (suc t) a +ℤ pos b) m in
      let more : take (suc t) legs ≡ take t legs ++ here ∷ [] = ap (λ k. take k legs) (sym up) ∙ take_more legs t empty_legs (omega arith) in
      let front : length (take t legs) ≡ t = length-front t legs (omega arith) in
      ap (λ x. cond low x 0)
      (convolved-same (kept_ways w (no_legs w) m t a) (λ j. number t side j) (count here) (count here) b (λ j k. kept-number t (omega arith) side j (omega arith)) (λ j k. refl)
      ∙ (sym (last-corner (take t legs) here side (all-front_of AreDiagrams t legs legs-diagrams) (all-at AreDiagrams legs empty_legs legs-diagrams t (omega arith)) (passes w m t a) b h)
      ∙ (ap (λ k. length (filter (λ sets. passes w m t a (take k sets)) (fillings (take t legs ++ here ∷ []) side b))) front
      ∙ (ap (λ ls. length (filter (λ sets. passes w m t a (take t sets)) (fillings ls side b))) (sym more)
      ∙ ap length (filter-same_on (λ (s : List (List Cell)). Unit {0}) (λ sets. passes w m t a (take t sets)) (passes w m t a) (λ sets none. sym (passes-front w m t t a sets (omega arith))) (fillings (take (suc t) legs) side b) (all-any (λ (s : List (List Cell)). Unit {0}) (λ s. tt) (fillings (take (suc t) legs) side b)))))))
      ∙ (sym (with-same (passes w m t a) low (fillings (take (suc t) legs) side b))
      ∙ ap length (filter-same_on (HasShape (take (suc t) legs) b) (λ sets. passes w m t a sets && low) (passes w m (suc t) a) (λ sets shape. passes-last w m t a sets b (omega (arith, shape.0, length-front (suc t) legs (omega arith))) shape.1) (fillings (take (suc t) legs) side b) (fillings-shaped (take (suc t) legs) side b)))

-- ---- the test on a configuration

kept-there : (c : Bool) (d : Rows) → c ≡ true → cond c d [] ≡ d
kept-there true d h = refl
kept-there false d h = cc

only-agrees : (p : CompactEdge → Bool) (es : List CompactEdge) (a : Assignment) → length a ≡ length es → Agrees p es (only p es a) a
only-agrees p [] a long = tt
only-agrees p (e ∷ es) [] long = absurd (omega arith)
only-agrees p (e ∷ es) (d ∷ a) long = ((λ on. kept-there (p e) d on), only-agrees p es a (omega arith))

chi-restricted : (w : Web) (s : ℕ) (a : Assignment) (sets : List (List Cell)) → length a ≡ length (compact w) → s ≤ length w.triangles → partial_chi w s (restricted w s (configuration a sets)) ≡ start_after w (no_legs w) s a +ℤ pos (boxes_of (take s sets))
chi-restricted w s a sets long within =
    let met = only (is_met s) (compact w) a in
    let same : first_legs w s met ≡ first_legs w s a = front-agrees w (no_legs w) (is_met s) met a (only-agrees (is_met s) (compact w) a long) s within (λ r h e on. touching-met s r e h on) in
    let overlaps : overlaps_of (first_legs w s met) ≡ overlaps_of (first_legs w s a) = ap overlaps_of same in
    omega (arith, ints)

is-passes : (w : Web) (m : ℤ) (t : ℕ) (a : Assignment) (sets : List (List Cell)) → length a ≡ length (compact w) → t ≤ length w.triangles → is_kept w m t (configuration a sets) ≡ passes w m t a sets
unfolding is_kept passes
is-passes w m zero a sets long within = ap (λ z. int_le z m) (chi-restricted w 0 a sets long within)
is-passes w m (suc t) a sets long within =
    ap (λ b. b && is_low w m (suc t) (configuration a sets)) (is-passes w m t a sets long (omega arith))
    ∙ ap (λ z. passes w m t a sets && int_le z m) (chi-restricted w (suc t) a sets long within)

-- ---- states

by-boxes : (f : ℕ → ℕ) (p : List (List Cell) → Bool) (ls : List Legs) (z : ℤ) → ((b : ℕ) → f b ≡ length (filter p (fillings ls b b))) → at_number f z ≡ length (filter p (fillings_of ls z))
by-boxes f p ls (pos b) same = same b
by-boxes f p ls (negsuc b) same = refl

on-kept : (w : Web) (d : ℕ) (m : ℤ) (t : ℕ) (i : ℤ) → IsGraded w → t ≤ length w.triangles → (a : Assignment) → IsResting w d t a → kept_at w (no_legs w) m t a i ≡ length (filter (is_kept w m t) (partial_on w t a i))
on-kept w d m t i graded within a is =
    let diagrams = all-contains (λ (b : Assignment). AllByRecursion IsDiagram b) (assignments w d) a (assignments_have_diagrams w d) is.among in
    let long = listed-long w d a is.among in
    by-boxes (kept_ways w (no_legs w) m t a) (passes w m t a) (first_legs w t a) (i -ℤ start_after w (no_legs w) t a) (λ b. kept-number w m a diagrams t within b b (omega arith))
    ∙ (ap (λ z. length (filter (passes w m t a) (fillings_of (first_legs w t a) z))) (sym (left-is w d t a i graded is))
    ∙ (sym (length-map (filter (passes w m t a) (fillings_of (first_legs w t a) (partial_boxes_left w t a i))) (configuration a))
    ∙ ap length (sym (filter-map (is_kept w m t) (passes w m t a) (configuration a) (λ sets. is-passes w m t a sets long within) (fillings_of (first_legs w t a) (partial_boxes_left w t a i))))))

kept-listed : (w : Web) (d : ℕ) (m : ℤ) (t : ℕ) (k : List Rows) (v : List ℤ) (i : ℤ) → IsGraded w → degree_of w.heights v ≤ℤ pos d → kept_configurations w m t k v i ≡ flat_map (λ a. filter (is_kept w m t) (partial_on w t a i)) (of_state w d t k v)
kept-listed w d m t k v i graded most = ap (filter (is_kept w m t)) (choice-listed w d t k v i graded most) ∙ filter-flat_map (is_kept w m t) (λ a. partial_on w t a i) (of_state w d t k v)

pub kept_ones : KeptOnes
unfolding state_number
kept_ones w d m t k v i graded most within =
    sum_of-same (λ a. kept_at w (no_legs w) m t a i) (λ a. length (filter (is_kept w m t) (partial_on w t a i))) (of_state w d t k v)
    (all-onto (IsResting w d t) (λ a. kept_at w (no_legs w) m t a i ≡ length (filter (is_kept w m t) (partial_on w t a i))) (on-kept w d m t i graded within) (of_state w d t k v) (state-rests w d t k v))
    ∙ (sym (length-flat_map (λ a. filter (is_kept w m t) (partial_on w t a i)) (of_state w d t k v))
    ∙ ap length (sym (kept-listed w d m t k v i graded most)))

on-kept-signed : (w : Web) (m : ℤ) (t : ℕ) (i : ℤ) (a : Assignment) → total (partial_sign w t) (filter (is_kept w m t) (partial_on w t a i)) ≡ assignment_sign w a i *ℤ pos (length (filter (is_kept w m t) (partial_on w t a i)))
on-kept-signed w m t i a =
    total-alike (partial_sign w t) (assignment_sign w a i) (filter (is_kept w m t) (partial_on w t a i))
    (all-filter (λ c. partial_sign w t c ≡ assignment_sign w a i) (λ c. partial_sign w t c ≡ assignment_sign w a i) (is_kept w m t) (λ c e on. e) (partial_on w t a i) (signs-on w t i a))

pub kept_ones_signed : KeptOnesSigned
unfolding state_sum
kept_ones_signed w d m t k v i graded most within =
    total-same (λ a. assignment_sign w a i *ℤ pos (kept_at w (no_legs w) m t a i)) (λ a. total (partial_sign w t) (filter (is_kept w m t) (partial_on w t a i))) (of_state w d t k v)
    (all-onto (IsResting w d t) (λ a. assignment_sign w a i *ℤ pos (kept_at w (no_legs w) m t a i) ≡ total (partial_sign w t) (filter (is_kept w m t) (partial_on w t a i)))
    (λ a is. ap (λ x. assignment_sign w a i *ℤ pos x) (on-kept w d m t i graded within a is) ∙ sym (on-kept-signed w m t i a)) (of_state w d t k v) (state-rests w d t k v))
    ∙ (sym (total-flat_map (partial_sign w t) (λ a. filter (is_kept w m t) (partial_on w t a i)) (of_state w d t k v))
    ∙ ap (total (partial_sign w t)) (sym (kept-listed w d m t k v i graded most)))

-- ---- through n each is kept

filter-short : {A : Type 0} (p : A → Bool) (xs : List A) → length (filter p xs) ≤ length xs
filter-short p [] = omega arith
filter-short p (x ∷ xs) = let rest = filter-short p xs in elim (p x) as (λ b. length (cond b (x ∷ filter p xs) (filter p xs)) ≤ suc (length xs)) [ true ↦ omega arith | false ↦ omega arith ]

filter-full : {A : Type 0} (p : A → Bool) (xs : List A) → length (filter p xs) ≡ length xs → filter p xs ≡ xs
filter-full p [] e = refl
filter-full p (x ∷ xs) e = step (p x) (filter-full p xs) (filter-short p xs) e
  where
    step : (b : Bool) → (length (filter p xs) ≡ length xs → filter p xs ≡ xs) → length (filter p xs) ≤ length xs → length (cond b (x ∷ filter p xs) (filter p xs)) ≡ suc (length xs) → cond b (x ∷ filter p xs) (filter p xs) ≡ x ∷ xs
    step true rest short e = ap (λ ys. x ∷ ys) (rest (omega arith))
    step false rest short e = absurd (omega arith)

pub through_are_kept : ThroughAreKept
through_are_kept w d t k v i n graded most within h =
    filter-full (is_kept w (kept_upto w (no_legs w) d n) t) (filter (λ c. same_choice (chosen t (compact w) c.diagrams) k) (partial_configurations w t v i))
    (sym (kept_ones w d (kept_upto w (no_legs w) d n) t k v i graded most within) ∙ kept_are_counted w d t k v i n graded most within h)
