-- What all states add to the families of the choices after a corner is what one step along the frontier adds up.
use Rattle.std.specs.Prelude.{◌≡◌, Contains, ℕ, suc, ◌+◌, ◌<◌, ◌≤◌, Bool, true, false, cond, ◌&&◌, int_le, ℤ, pos, negsuc, ◌+ℤ◌, ◌-ℤ◌, ◌≤ℤ◌, ◌<ℤ◌, List, [], ◌∷◌, ◌++◌, length, unsigned_abs, nat_eq}
use Rattle.std.specs.List.{AllByRecursion, flat_map}
use Rattle.std.proofs.Common.{refl, sym, ap, subst, ◌∙◌, inl, inr, arith}
use Rattle.std.proofs.lemmas.Int.{ints}
use Rattle.std.proofs.lemmas.Bool.{eqb-true, eq-eqb}
use Rattle.tv_lemmas.specs.Sums.{sum_of}
use Rattle.tv_lemmas.proofs.Members.{all-onto, all-any, all-append, all-front, all-back, all-flat_map, all-pieces, all-filter, all-contains, all-members, contains-cases}
use Rattle.tv_laws_series.proofs.NormalForm.{bool_cases}
use Rattle.tv_ring.specs.Operations.{Operations, RingLaws}
use Rattle.tv_ring.specs.Sums.{whole_times}
use Rattle.tv_ring.proofs.Times.{whole_times-pos}
use Rattle.tv_spec_plane.specs.Graded.{IsGraded}
use Rattle.tv_spec_plane.specs.Web.{Web, compact, degree_of}
use Rattle.tv_degrees.specs.Grades.{IsHeighted}
use Rattle.tv_spec_boxes.specs.Assignments.{Rows, Assignment, no_legs, class_of, class_difference, assignments, same_choice, same_vector}
use Rattle.tv_spec_boxes.specs.Numbers.{lowest, box_bound, crowd}
use Rattle.tv_spec_boxes.proofs.Vectors.{same_vector_tells, length-class_of, length-plus}
use Rattle.tv_spec_partial.specs.Partial.{chosen}
use Rattle.tv_laws_series.specs.Terms.{IsWithin}
use Rattle.tv_spec_series.specs.Families.{Family, classes, without_rows}
use Rattle.tv_laws_frontier.specs.Frontier.{kept_at, is_of_state, of_state, state_number, kept_upto}
use Rattle.tv_laws_frontier.specs.Steps.{states, options, new_part, near_part, stepped}
use Rattle.tv_laws_frontier.specs.StateClasses.{HasClass, ComesFrom}
use Rattle.tv_laws_frontier.proofs.Crowded.{none-of, state-class, crowd_of_state}
use Rattle.tv_laws_frontier.proofs.Degrees.{none-there, joins_within}
use Rattle.tv_laws_frontier.proofs.Listed.{choice_equality}
use Rattle.tv_laws_frontier.proofs.PartialSums.{no_diagrams}
use Rattle.tv_laws_frontier.proofs.StateClasses.{classes_step}
use Rattle.tv_laws_frontier.proofs.Step.{step_of_state}
use Rattle.tv_frontier.specs.Joining.{lowest_kept, join_number}
use Rattle.tv_frontier.specs.Sums.{Addend, added_up}
use Rattle.tv_frontier.specs.Rows.{after_of, target, addend_of, row_addends, sizes_up, HasRoom, IsBound, Holding, IsPart}
use Rattle.tv_frontier.specs.Layers.{AllHold, AllShaped, AreWithout, pair_addends, state_addends, classed, layer_addends, AreParts}
use Rattle.tv_frontier.proofs.Classes.{class-listed, class-place}
use Rattle.tv_frontier.proofs.Exact.{rows-joined, plus-difference}
use Rattle.tv_frontier.proofs.Held.{holds-none}

-- ---- sums of naturals

record IsSound (w : Web) (a : Addend) : Type 0 where
  natural : (i : ℤ) → pos (unsigned_abs (a.number i)) ≡ a.number i
  long : length a.class ≡ length w.points

by-size : (b : Bool) (x z : ℤ) (s : ℕ) → pos (unsigned_abs x) ≡ x → pos s ≡ z → pos (cond b (unsigned_abs x) 0 + s) ≡ cond b x (pos 0) +ℤ z
by-size true x z s natural e = omega (arith, ints)
by-size false x z s natural e = omega (arith, ints)

sizes-natural : (w : Web) (front : List Addend) (v : List ℤ) (i : ℤ) → AllByRecursion (IsSound w) front → pos (sizes_up front v i) ≡ added_up front v i
unfolding sizes_up added_up
sizes-natural w [] v i all = refl
sizes-natural w (a ∷ front) v i all = by-size (same_vector a.class v) (a.number i) (added_up front v i) (sizes_up front v i) (all.0.natural i) (sizes-natural w front v i all.1)

no-sum : pos 0 +ℤ pos 0 ≡ pos 0
no-sum = omega (arith, ints)

one-more : (x y z u : ℤ) → y ≡ z +ℤ u → x +ℤ y ≡ (x +ℤ z) +ℤ u
one-more x y z u e = omega (arith, ints)

both-natural : (x y : ℤ) (m n : ℕ) → x ≡ pos m → y ≡ pos n → x +ℤ y ≡ pos (m + n)
both-natural x y m n e f = omega (arith, ints)

none-up : (v : List ℤ) (i : ℤ) → added_up [] v i ≡ pos 0
unfolding added_up
none-up v i = refl

none-added : (w : Web) (front : List Addend) (v : List ℤ) (i : ℤ) → (length v ≡ length w.points → ⊥) → AllByRecursion (IsSound w) front → added_up front v i ≡ pos 0
unfolding added_up
none-added w [] v i other all = refl
none-added w (a ∷ front) v i other all = bool_cases (same_vector a.class v)
    (λ e. absurd (other (ap length (sym (same_vector_tells a.class v e)) ∙ all.0.long)))
    (λ e. ap (λ b. cond b (a.number i) (pos 0) +ℤ added_up front v i) e ∙ (ap (λ z. pos 0 +ℤ z) (none-added w front v i other all.1) ∙ no-sum))

added-both : (xs ys : List Addend) (v : List ℤ) (i : ℤ) → added_up (xs ++ ys) v i ≡ added_up xs v i +ℤ added_up ys v i
unfolding added_up
added-both [] ys v i = omega (arith, ints)
added-both (a ∷ xs) ys v i = one-more _ _ _ _ (added-both xs ys v i)

added-flat : {X : Type 0} (f : X → List Addend) (number : X → ℕ) (v : List ℤ) (i : ℤ) (xs : List X) → AllByRecursion (λ x. added_up (f x) v i ≡ pos (number x)) xs → added_up (flat_map f xs) v i ≡ pos (sum_of number xs)
added-flat f number v i [] each = none-up v i
added-flat f number v i (x ∷ xs) each =
    added-both (f x) (flat_map f xs) v i ∙ both-natural (added_up (f x) v i) (added_up (flat_map f xs) v i) (number x) (sum_of number xs) each.0 (added-flat f number v i xs each.1)

-- ---- what holds of each addend

all-cond : {X : Type 0} (P : X → Type 0) (b : Bool) (xs : List X) → AllByRecursion P xs → AllByRecursion P (cond b xs [])
all-cond P true xs all = all
all-cond P false xs all = tt

module _ (w : Web) (d : ℕ) (n : ℤ) (t : ℕ) where
  rows-all : (P : Addend → Type 0) (h g : List Rows) (us : List (List ℤ)) → AllByRecursion (λ u. P (addend_of w d n t h g (target w t g u))) us → AllByRecursion P (row_addends w d n t h g us)
  unfolding row_addends
  rows-all P h g [] all = tt
  rows-all P h g (u ∷ us) all = by_test (int_le (degree_of w.heights (target w t g u)) (pos d)) (rows-all P h g us all.1)
    where
      by_test : (b : Bool) → AllByRecursion P (row_addends w d n t h g us) → AllByRecursion P (cond b (addend_of w d n t h g (target w t g u) ∷ row_addends w d n t h g us) (row_addends w d n t h g us))
      by_test true rest = (all.0, rest)
      by_test false rest = rest

  target-long : (h g : List Rows) (u : List ℤ) → HasClass w d t h u → length (target w t g u) ≡ length w.points
  target-long h g u has =
      let of = class-listed w d t h u has in
      let long : length u ≡ length w.points = ap length (sym of.class) ∙ length-class_of w has.witness in
      let new : length (class_of w (new_part w t g)) ≡ length w.points = length-class_of w (new_part w t g) in
      length-plus u (class_of w (new_part w t g)) (long ∙ sym new) ∙ new

  sound-at : (h g : List Rows) (u : List ℤ) → HasClass w d t h u → IsSound w (addend_of w d n t h g (target w t g u))
  sound-at h g u has = record { natural = λ i. refl; long = target-long h g u has }

  state-sound : (h : List Rows) (us : List (List ℤ)) (gs : List (List Rows)) (k : List Rows) → AllByRecursion (HasClass w d t h) us → AllByRecursion (IsSound w) (state_addends w d n t gs (h, us) k)
  state-sound h us gs k each =
      all-flat_map (λ (g : List Rows). Unit {0}) (IsSound w) (λ g. pair_addends w d n t h g us k)
      (λ g on. all-cond (IsSound w) (int_le (degree_of w.heights (class_of w (near_part w t h g))) (pos d) && same_choice (after_of w t h g) k) (row_addends w d n t h g us)
      (rows-all (IsSound w) h g us (all-onto (HasClass w d t h) (λ u. IsSound w (addend_of w d n t h g (target w t g u))) (sound-at h g) us each)))
      gs (all-any (λ (g : List Rows). Unit {0}) (λ g. tt) gs)

  -- an addend of a class
  row-part : (Q : List ℤ → Type 0) (h g : List Rows) (us : List (List ℤ)) (u : List ℤ) → AllByRecursion (λ (a : Addend). Q a.class) (row_addends w d n t h g us) → Contains us u → degree_of w.heights (target w t g u) ≤ℤ pos d → Q (target w t g u)
  unfolding row_addends
  row-part Q h g [] u all there most = absurd (let h = there.1 in omega arith)
  row-part Q h g (x ∷ us) u all there most = elim (contains-cases u x us there) [ inl e ↦ here e | inr later ↦ row-part Q h g us u (behind (int_le (degree_of w.heights (target w t g x)) (pos d)) all) later most ]
    where
      behind : (b : Bool) → AllByRecursion (λ (a : Addend). Q a.class) (cond b (addend_of w d n t h g (target w t g x) ∷ row_addends w d n t h g us) (row_addends w d n t h g us)) → AllByRecursion (λ (a : Addend). Q a.class) (row_addends w d n t h g us)
      behind true both = both.1
      behind false rest = rest

      first : (b : Bool) → b ≡ true → AllByRecursion (λ (a : Addend). Q a.class) (cond b (addend_of w d n t h g (target w t g x) ∷ row_addends w d n t h g us) (row_addends w d n t h g us)) → Q (target w t g x)
      first true on both = both.0
      first false on both = absurd (cc)

      here : x ≡ u → Q (target w t g u)
      here e =
          let low : degree_of w.heights (target w t g x) ≤ℤ pos d = subst (λ (z : List ℤ). degree_of w.heights (target w t g z) ≤ℤ pos d) (sym e) most in
          let on : int_le (degree_of w.heights (target w t g x)) (pos d) ≡ true = grind (arith, ints) in
          subst (λ (z : List ℤ). Q (target w t g z)) e (first (int_le (degree_of w.heights (target w t g x)) (pos d)) on all)

-- an assignment that has the class is of the state
pub state-on : (w : Web) (d t : ℕ) (k : List Rows) (v : List ℤ) → (has : HasClass w d t k v) → is_of_state w t k v has.witness ≡ true
state-on w d t k v has =
    all-contains (λ a. is_of_state w t k v a ≡ true) (of_state w d t k v) has.witness
    (all-filter (λ (a : Assignment). Unit {0}) (λ a. is_of_state w t k v a ≡ true) (is_of_state w t k v) (λ a any yes. yes) (assignments w d) (all-any (λ (a : Assignment). Unit {0}) (λ a. tt) (assignments w d))) has.listed

greater : (a b : ℤ) → int_le a b ≡ false → b <ℤ a
greater a b off = by_place (b -ℤ a) refl
  where
    by_place : (z : ℤ) → b -ℤ a ≡ z → b <ℤ a
    by_place (pos k) e = absurd (let low : a ≤ℤ b = omega (arith, ints) in let on : int_le a b ≡ true = grind (arith, ints) in let no : true ≡ false = sym on ∙ off in cc)
    by_place (negsuc k) e = omega (arith, ints)

-- where the class is left of the new edges, what the corner sees is of degree at most d
left-within : (w : Web) (d t : ℕ) (h g : List Rows) (v : List ℤ) → IsGraded w → degree_of w.heights v ≤ℤ pos d → t < length w.triangles → Contains (options w d t) g → HasClass w d t h (class_difference v (class_of w (new_part w t g))) →
    int_le (degree_of w.heights (class_of w (near_part w t h g))) (pos d) ≡ true
left-within w d t h g v graded most corner new has = by_test (int_le (degree_of w.heights (class_of w (near_part w t h g))) (pos d)) refl
  where
    by_test : (b : Bool) → int_le (degree_of w.heights (class_of w (near_part w t h g))) (pos d) ≡ b → b ≡ true
    by_test true e = refl
    by_test false e =
        absurd (none-there w d t h g v graded most corner new (greater (degree_of w.heights (class_of w (near_part w t h g))) (pos d) e) has.witness
        (class-listed w d t h (class_difference v (class_of w (new_part w t g))) has).among (state-on w d t h (class_difference v (class_of w (new_part w t g))) has))

-- ---- all states

module _ {A : Type 0} (IsValue : A → Type 0) (r : Operations A) (w : Web) (d : ℕ) (n : ℤ) (t : ℕ) (gs : List (List Rows)) (k : List Rows) (graded : IsGraded w) (corner : t < length w.triangles) (listed : gs ≡ options w d t) where
  abbrev m : ℤ
  m = kept_upto w (no_legs w) d n

  layer-sound : (keys : List (List Rows)) (parts : List (Family A)) → AreParts IsValue r w d n t keys parts → AllByRecursion (IsSound w) (layer_addends w d n t gs (classed keys parts) k)
  layer-sound [] [] are = tt
  layer-sound (h ∷ keys) [] are = absurd are
  layer-sound [] (f ∷ parts) are = absurd are
  layer-sound (h ∷ keys) (f ∷ parts) are = all-append (IsSound w) (state_addends w d n t gs (h, classes f.rows) k) (layer_addends w d n t gs (classed keys parts) k) (state-sound w d n t h (classes f.rows) gs k are.0.each) (layer-sound keys parts are.1)

  among : AllByRecursion (Contains (options w d t)) gs
  among = subst (λ (xs : List (List Rows)). AllByRecursion (Contains xs) gs) listed (all-members gs)

  module _ (v : List ℤ) (i : ℤ) (most : degree_of w.heights v ≤ℤ pos d) where
    abbrev joins : List Rows → List Rows → ℕ
    joins h g = cond (same_choice (chosen (suc t) (compact w) (near_part w t h g)) k) (join_number w d n t h g v i) 0

    module _ (long : length v ≡ length w.points) where
      pair-sum : (h g : List Rows) (f : Family A) → IsPart IsValue r w d n t h f → Contains (options w d t) g → added_up (pair_addends w d n t h g (classes f.rows) k) v i ≡ pos (joins h g)
      pair-sum h g f part new = by_test (int_le (degree_of w.heights (class_of w (near_part w t h g))) (pos d)) (same_choice (after_of w t h g) k) refl
        where
          by_test : (a b : Bool) → int_le (degree_of w.heights (class_of w (near_part w t h g))) (pos d) ≡ a → added_up (cond (a && b) (row_addends w d n t h g (classes f.rows)) []) v i ≡ pos (cond b (join_number w d n t h g v i) 0)
          by_test true true e = rows-joined w d n t h g v i most r f part long
          by_test true false e = none-up v i
          by_test false false e = none-up v i
          by_test false true e =
              let great : pos d <ℤ degree_of w.heights (class_of w (near_part w t h g)) = greater (degree_of w.heights (class_of w (near_part w t h g))) (pos d) e in
              none-up v i ∙ ap pos (sym (joins_within w (no_legs w) d t (box_bound n (lowest w (no_legs w) d)) h g v m i graded most corner new great))

      state-sum : (h : List Rows) (f : Family A) → IsPart IsValue r w d n t h f → added_up (state_addends w d n t gs (h, classes f.rows) k) v i ≡ pos (sum_of (joins h) gs)
      state-sum h f part = added-flat (λ g. pair_addends w d n t h g (classes f.rows) k) (joins h) v i gs
          (all-onto (Contains (options w d t)) (λ g. added_up (pair_addends w d n t h g (classes f.rows) k) v i ≡ pos (joins h g)) (λ g new. pair-sum h g f part new) gs among)

      layer-sum : (keys : List (List Rows)) (parts : List (Family A)) → AreParts IsValue r w d n t keys parts → added_up (layer_addends w d n t gs (classed keys parts) k) v i ≡ pos (sum_of (λ h. sum_of (joins h) gs) keys)
      layer-sum [] [] are = none-up v i
      layer-sum (h ∷ keys) [] are = absurd are
      layer-sum [] (f ∷ parts) are = absurd are
      layer-sum (h ∷ keys) (f ∷ parts) are =
          added-both (state_addends w d n t gs (h, classes f.rows) k) (layer_addends w d n t gs (classed keys parts) k) v i
          ∙ both-natural (added_up (state_addends w d n t gs (h, classes f.rows) k) v i) (added_up (layer_addends w d n t gs (classed keys parts) k) v i) (sum_of (joins h) gs) (sum_of (λ x. sum_of (joins x) gs) keys) (state-sum h f are.0) (layer-sum keys parts are.1)

    stepped-is : (keys : List (List Rows)) → keys ≡ states w d t → sum_of (λ h. sum_of (joins h) gs) keys ≡ stepped w (no_legs w) d m (box_bound n (lowest w (no_legs w) d)) t k v i
    unfolding stepped
    stepped-is keys is = ap (sum_of (λ h. sum_of (joins h) gs)) is ∙ ap (λ xs. sum_of (λ h. sum_of (joins h) xs) (states w d t)) listed

    none-long : (length v ≡ length w.points → ⊥) → state_number w (no_legs w) d m (suc t) k v i ≡ 0
    unfolding state_number
    none-long other = none-of (λ a. kept_at w (no_legs w) m (suc t) a i) (of_state w d (suc t) k v)
        (all-filter (λ (a : Assignment). Unit {0}) (λ (a : Assignment). ⊥) (is_of_state w (suc t) k v)
        (λ a any on. other (ap length (sym (same_vector_tells (class_of w a) v (state-class w (suc t) k v a on))) ∙ length-class_of w a))
        (assignments w d) (all-any (λ (a : Assignment). Unit {0}) (λ a. tt) (assignments w d)))

    -- whatever the class, the sum is the number of the state after the corner
    pub layer-numbers : i ≤ℤ kept_upto w (no_legs w) d n → (keys : List (List Rows)) (parts : List (Family A)) → keys ≡ states w d t → AreParts IsValue r w d n t keys parts →
        added_up (layer_addends w d n t gs (classed keys parts) k) v i ≡ pos (state_number w (no_legs w) d (kept_upto w (no_legs w) d n) (suc t) k v i)
    layer-numbers within keys parts is are = bool_cases (nat_eq (length v) (length w.points))
        (λ e. layer-sum (eqb-true (length v) (length w.points) e) keys parts are ∙ ap pos (stepped-is keys is ∙ sym (step_of_state w (no_legs w) d t k v i n graded most corner within)))
        (λ e. let other : length v ≡ length w.points → ⊥ = λ same. differs (length v) (length w.points) e same in
        none-added w (layer_addends w d n t gs (classed keys parts) k) v i other (layer-sound keys parts are) ∙ ap pos (sym (none-long other)))
      where
        differs : (a b : ℕ) → nat_eq a b ≡ false → a ≡ b → ⊥
        differs a b off same = let yes : nat_eq a b ≡ true = eq-eqb a b same in let no : true ≡ false = sym yes ∙ off in cc

    pub layer-sizes : i ≤ℤ kept_upto w (no_legs w) d n → (keys : List (List Rows)) (parts : List (Family A)) → keys ≡ states w d t → AreParts IsValue r w d n t keys parts →
        sizes_up (layer_addends w d n t gs (classed keys parts) k) v i ≤ crowd w (no_legs w) d n v
    layer-sizes within keys parts is are =
        let same : pos (sizes_up (layer_addends w d n t gs (classed keys parts) k) v i) ≡ pos (state_number w (no_legs w) d (kept_upto w (no_legs w) d n) (suc t) k v i) =
        sizes-natural w (layer_addends w d n t gs (classed keys parts) k) v i (layer-sound keys parts are) ∙ layer-numbers within keys parts is are in
        let bound = crowd_of_state w (no_legs w) d (suc t) k v i n graded (no_diagrams w) (omega arith) within in
        omega (arith, ints)

  pub layer-room : (keys : List (List Rows)) (parts : List (Family A)) → keys ≡ states w d t → AreParts IsValue r w d n t keys parts → HasRoom w d n (layer_addends w d n t gs (classed keys parts) k)
  layer-room keys parts is are v i most within = layer-sizes v i most within keys parts is are

  -- every class of the state after the corner is there
  module _ (Q : List ℤ → Type 0) where
    abbrev On : Addend → Type 0
    On a = Q a.class

    record IsThere (h : List Rows) : Type 0 where
      part : Family A
      is : IsPart IsValue r w d n t h part
      adds : AllByRecursion On (state_addends w d n t gs (h, classes part.rows) k)

    state-there : (keys : List (List Rows)) (parts : List (Family A)) → AreParts IsValue r w d n t keys parts → AllByRecursion On (layer_addends w d n t gs (classed keys parts) k) → AllByRecursion IsThere keys
    state-there [] [] are all = tt
    state-there (h ∷ keys) [] are all = absurd are
    state-there [] (f ∷ parts) are all = absurd are
    state-there (h ∷ keys) (f ∷ parts) are all = (
      record { part = f; is = are.0; adds = all-front On (state_addends w d n t gs (h, classes f.rows) k) (layer_addends w d n t gs (classed keys parts) k) all },
      state-there keys parts are.1 (all-back On (state_addends w d n t gs (h, classes f.rows) k) (layer_addends w d n t gs (classed keys parts) k) all),
    )

    pub class-there : (keys : List (List Rows)) (parts : List (Family A)) → IsHeighted w → keys ≡ states w d t → AreParts IsValue r w d n t keys parts → AllByRecursion On (layer_addends w d n t gs (classed keys parts) k) → (v : List ℤ) → HasClass w d (suc t) k v → Q v
    class-there keys parts heighted is are all v has =
        let most : degree_of w.heights v ≤ℤ pos d = (class-place w d (suc t) k v graded heighted has).within in
        let from : ComesFrom w d t k v = (classes_step w d t k v graded most corner).0 has in
        let h = from.first in
        let g = from.new in
        let old : IsThere h = all-contains IsThere keys h (state-there keys parts are all) (subst (λ (xs : List (List Rows)). Contains xs h) (sym is) from.listed_first) in
        let pair : AllByRecursion On (pair_addends w d n t h g (classes old.part.rows) k) = all-contains (λ x. AllByRecursion On (pair_addends w d n t h x (classes old.part.rows) k)) gs g
        (all-pieces On (λ x. pair_addends w d n t h x (classes old.part.rows) k) gs old.adds) (subst (λ (xs : List (List Rows)). Contains xs g) (sym listed) from.listed_new) in
        let left : List ℤ = class_difference v (class_of w (new_part w t g)) in
        let within = left-within w d t h g v graded most corner from.listed_new from.class in
        let here : same_choice (after_of w t h g) k ≡ true = ap (λ x. same_choice x k) from.after ∙ choice_equality.own k in
        let rows : AllByRecursion On (row_addends w d n t h g (classes old.part.rows)) = taken (int_le (degree_of w.heights (class_of w (near_part w t h g))) (pos d)) (same_choice (after_of w t h g) k) within here (row_addends w d n t h g (classes old.part.rows)) pair in
        let long : length v ≡ length w.points = (let of = class-listed w d (suc t) k v has in ap length (sym of.class) ∙ length-class_of w has.witness) in
        let same : target w t g left ≡ v = plus-difference v (class_of w (new_part w t g)) (long ∙ sym (length-class_of w (new_part w t g))) in
        subst Q same (row-part w d n t Q h g (classes old.part.rows) left rows (old.is.whole left from.class) (subst (λ (z : List ℤ). degree_of w.heights z ≤ℤ pos d) (sym same) most))
      where
        taken : (a b : Bool) → a ≡ true → b ≡ true → (xs : List Addend) → AllByRecursion On (cond (a && b) xs []) → AllByRecursion On xs
        taken true true ea eb xs all = all
        taken true false ea eb xs all = absurd (cc)
        taken false b ea eb xs all = absurd (cc)

-- ---- the families after the corner

module _ {A : Type 0} {IsValue : A → Type 0} {r : Operations A} (laws : RingLaws IsValue r) (w : Web) (d : ℕ) (n : ℤ) (t : ℕ) (gs : List (List Rows)) (graded : IsGraded w) (heighted : IsHeighted w) (corner : t < length w.triangles) (listed : gs ≡ options w d t) (keys : List (List Rows)) (parts : List (Family A)) (is : keys ≡ states w d t) (are : AreParts IsValue r w d n t keys parts) where
  part-after : (k : List Rows) (f : Family A) → IsBound w d n f.upto → Holding IsValue r w d n (suc t) k (layer_addends w d n t gs (classed keys parts) k) f → IsPart IsValue r w d n (suc t) k f
  part-after k f bound held = record {
    shape = record { heights = held.heights; top = held.top; bound = bound };
    family = held.family;
    each = held.each;
    whole = class-there IsValue r w d n t gs k graded corner listed (Contains (classes f.rows)) keys parts heighted is are held.whole;
    low = held.low;
    numbers = λ v i within most. held.numbers v i within ∙ (ap (whole_times r) (layer-numbers IsValue r w d n t gs k graded corner listed v i most (let l = bound.last in omega (arith, ints)) keys parts is are) ∙ whole_times-pos r (state_number w (no_legs w) d (kept_upto w (no_legs w) d n) (suc t) k v i));
  }

  pub parts-after : (ks : List (List Rows)) (bs : List ℤ) (fs : List (Family A)) → AllByRecursion (IsBound w d n) bs → AllShaped w d bs fs → AllHold IsValue r w d n (suc t) (λ k. layer_addends w d n t gs (classed keys parts) k) ks fs → AreParts IsValue r w d n (suc t) ks fs
  parts-after [] bs [] bounded shaped held = tt
  parts-after (k ∷ ks) bs [] bounded shaped held = absurd held
  parts-after [] bs (f ∷ fs) bounded shaped held = absurd held
  parts-after (k ∷ ks) [] (f ∷ fs) bounded shaped held = absurd shaped
  parts-after (k ∷ ks) (b ∷ bs) (f ∷ fs) bounded shaped held = (part-after k f (subst (IsBound w d n) (sym shaped.0.upto) bounded.0) held.0, parts-after ks bs fs bounded.1 shaped.1 held.1)

  pub rooms-after : (ks : List (List Rows)) → AllByRecursion (λ (k : List Rows). HasRoom w d n (layer_addends w d n t gs (classed keys parts) k)) ks
  rooms-after ks = all-any (λ (k : List Rows). HasRoom w d n (layer_addends w d n t gs (classed keys parts) k)) (λ k. layer-room IsValue r w d n t gs k graded corner listed keys parts is are) ks

  -- before any state is joined the families hold nothing
  none-holding : (k : List Rows) (b : ℤ) (f : Family A) → f ≡ without_rows w.heights (pos d) b → IsWithin b → Holding IsValue r w d n (suc t) k [] f
  none-holding k b f none within =
      let empty : Holding IsValue r w d n (suc t) k [] (without_rows w.heights (pos d) b) = holds-none laws w.heights (pos d) b (lowest_kept w d n) (HasClass w d (suc t) k) within in
      subst (λ (z : Family A). Holding IsValue r w d n (suc t) k [] z) (sym none) empty

  pub none-held : (ks : List (List Rows)) (bs : List ℤ) (fs : List (Family A)) → length bs ≡ length ks → AreWithout w d bs fs → AllByRecursion IsWithin bs → AllHold IsValue r w d n (suc t) (λ k. []) ks fs
  none-held [] [] [] long none within = tt
  none-held (k ∷ ks) [] fs long none within = absurd (omega arith)
  none-held [] (b ∷ bs) fs long none within = absurd (omega arith)
  none-held [] [] (f ∷ fs) long none within = absurd none
  none-held (k ∷ ks) (b ∷ bs) [] long none within = absurd none
  none-held (k ∷ ks) (b ∷ bs) (f ∷ fs) long none within = (none-holding k b f none.0 within.0, none-held ks bs fs (omega arith) none.1 within.1)
