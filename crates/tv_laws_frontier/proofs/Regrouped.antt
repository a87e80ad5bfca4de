-- The numbers of a state after one corner more are sums over the states before and the diagrams on the new edges.
use Rattle.std.specs.Prelude.{◌≡◌, Contains, ℕ, suc, ◌*◌, ◌<◌, Bool, true, false, cond, ◌&&◌, ◌||◌, ℤ, pos, ◌-ℤ◌, ◌≤ℤ◌, List, [], length, filter}
use Rattle.std.proofs.Common.{refl, sym, ap, ◌∙◌, arith}
use Rattle.std.proofs.lemmas.Int.{ints}
use Rattle.std.proofs.lemmas.Bool.{and_parts}
use Rattle.std.proofs.lemmas.List.{length-map}
use Rattle.tv_lemmas.specs.Naturals.{as_natural}
use Rattle.tv_lemmas.specs.Sums.{sum_of}
use Rattle.tv_lemmas.proofs.Members.{all-filter, all-members}
use Rattle.tv_ring.specs.Sums.{total_below}
use Rattle.tv_spec_plane.specs.Graded.{IsGraded}
use Rattle.tv_spec_plane.specs.Web.{Web, compact, edge_degree, degree_of}
use Rattle.tv_cells.specs.Extras.{count}
use Rattle.tv_spec_boxes.specs.Assignments.{Rows, Assignment, class_of, assignments, same_choice, same_vector, class_difference}
use Rattle.tv_spec_boxes.specs.Numbers.{lowest, box_bound}
use Rattle.tv_spec_boxes.proofs.Vectors.{same_vector-same, same_vector_tells}
use Rattle.tv_spec_partial.specs.Partial.{is_met, is_pending, rests_on, chosen}
use Rattle.tv_laws_counts.proofs.Assigned.{assignments_once}
use Rattle.tv_laws_counts.proofs.Choices.{IsChoice, degree_by}
use Rattle.tv_laws_counts.proofs.Degrees.{weights, class_of-degree}
use Rattle.tv_laws_frontier.specs.Frontier.{only, kept_at, is_of_state, of_state, state_number, kept_upto}
use Rattle.tv_laws_frontier.specs.Steps.{is_new, picked, put, new_part, near_part, near_legs, before, joined}
use Rattle.tv_laws_frontier.proofs.Agreeing.{Agrees, agrees-fewer, agrees-only}
use Rattle.tv_laws_frontier.proofs.Classes.{class-before, class-after}
use Rattle.tv_laws_frontier.proofs.Crowded.{none-of}
use Rattle.tv_laws_frontier.proofs.Listed.{choice_equality, listed-choice, choice-listed, listed-long, only-listed}
use Rattle.tv_laws_frontier.proofs.Filters.{sum_of-same}
use Rattle.tv_laws_frontier.proofs.Parted.{exchanged, carried}
use Rattle.tv_laws_frontier.proofs.PartialSums.{only-resting}
use Rattle.tv_laws_frontier.proofs.Placed.{put-long, put-diagrams, picked-put, picked-other, agrees-other, agrees-picked}
use Rattle.tv_laws_frontier.proofs.Resting.{met-apart, pending-apart, pending-near, chosen-is, put-rests, split-rests, only-rests}
use Rattle.tv_laws_frontier.proofs.Stepping.{near-same, kept-next}

-- ---- one state and one option

module _ (w : Web) (d t : ℕ) (k h g : List Rows) (v : List ℤ) (graded : IsGraded w) (most : degree_of w.heights v ≤ℤ pos d) (within : t < length w.triangles) (is_option : IsChoice (weights w (filter (is_new t) (compact w))) d g) where
  abbrev class_left : List ℤ
  class_left = class_difference v (class_of w (new_part w t g))

  abbrev comes : Assignment → Bool
  comes a = (is_of_state w (suc t) k v a && same_choice (picked (is_pending t) (compact w) a) h) && same_choice (picked (is_new t) (compact w) a) g

  pub record Comes (a : Assignment) : Type 0 where
    pub among : Contains (assignments w d) a
    pub rests : rests_on (suc t) (compact w) a ≡ true
    pub after : chosen (suc t) (compact w) a ≡ k
    pub class : class_of w a ≡ v
    pub first : picked (is_pending t) (compact w) a ≡ h
    pub new : picked (is_new t) (compact w) a ≡ g

  comes-is : (a : Assignment) → Contains (assignments w d) a → comes a ≡ true → Comes a
  comes-is a among on =
      let outer = and_parts (is_of_state w (suc t) k v a && same_choice (picked (is_pending t) (compact w) a) h) (same_choice (picked (is_new t) (compact w) a) g) on in
      let inner = and_parts (is_of_state w (suc t) k v a) (same_choice (picked (is_pending t) (compact w) a) h) outer.0 in
      let state = and_parts (rests_on (suc t) (compact w) a) (same_choice (chosen (suc t) (compact w) a) k && same_vector (class_of w a) v) inner.0 in
      let last = and_parts (same_choice (chosen (suc t) (compact w) a) k) (same_vector (class_of w a) v) state.1 in
      record {
        among = among;
        rests = state.0;
        after = choice_equality.tells (chosen (suc t) (compact w) a) k last.0;
        class = same_vector_tells (class_of w a) v last.1;
        first = choice_equality.tells (picked (is_pending t) (compact w) a) h inner.1;
        new = choice_equality.tells (picked (is_new t) (compact w) a) g outer.1;
      }

  is-comes : (a : Assignment) → Comes a → comes a ≡ true
  is-comes a is =
      let after : same_choice (chosen (suc t) (compact w) a) k ≡ true = ap (λ x. same_choice x k) is.after ∙ choice_equality.own k in
      let class : same_vector (class_of w a) v ≡ true = ap (λ u. same_vector u v) is.class ∙ same_vector-same v in
      let first : same_choice (picked (is_pending t) (compact w) a) h ≡ true = ap (λ x. same_choice x h) is.first ∙ choice_equality.own h in
      let new : same_choice (picked (is_new t) (compact w) a) g ≡ true = ap (λ x. same_choice x g) is.new ∙ choice_equality.own g in
      all-true (rests_on (suc t) (compact w) a) (same_choice (chosen (suc t) (compact w) a) k) (same_vector (class_of w a) v) (same_choice (picked (is_pending t) (compact w) a) h) (same_choice (picked (is_new t) (compact w) a) g) is.rests after class first new
    where
      all-true : (x y z u s : Bool) → x ≡ true → y ≡ true → z ≡ true → u ≡ true → s ≡ true → (((x && (y && z)) && u) && s) ≡ true
      all-true x y z u s p q r o i = rw (p, q, r, o, i) refl

  pub record Goes (b : Assignment) : Type 0 where
    pub among : Contains (assignments w d) b
    pub rests : rests_on t (compact w) b ≡ true
    pub choice : picked (is_pending t) (compact w) b ≡ h
    pub class : class_of w b ≡ class_left

  pub goes-is : (b : Assignment) → Contains (assignments w d) b → is_of_state w t h class_left b ≡ true → Goes b
  goes-is b among on =
      let state = and_parts (rests_on t (compact w) b) (same_choice (chosen t (compact w) b) h && same_vector (class_of w b) class_left) on in
      let last = and_parts (same_choice (chosen t (compact w) b) h) (same_vector (class_of w b) class_left) state.1 in
      record {
        among = among;
        rests = state.0;
        choice = sym (chosen-is t (compact w) b) ∙ choice_equality.tells (chosen t (compact w) b) h last.0;
        class = same_vector_tells (class_of w b) class_left last.1;
      }

  pub is-goes : (b : Assignment) → Goes b → is_of_state w t h class_left b ≡ true
  is-goes b is =
      let choice : same_choice (chosen t (compact w) b) h ≡ true = ap (λ x. same_choice x h) (chosen-is t (compact w) b ∙ is.choice) ∙ choice_equality.own h in
      let class : same_vector (class_of w b) class_left ≡ true = ap (λ u. same_vector u class_left) is.class ∙ same_vector-same class_left in
      all-true (rests_on t (compact w) b) (same_choice (chosen t (compact w) b) h) (same_vector (class_of w b) class_left) is.rests choice class
    where
      all-true : (x y z : Bool) → x ≡ true → y ≡ true → z ≡ true → (x && (y && z)) ≡ true
      all-true x y z p q r = rw (p, q, r) refl

  new-long : length g ≡ length (filter (is_new t) (compact w))
  new-long = is_option.one_each ∙ length-map (filter (is_new t) (compact w)) (λ e. as_natural (edge_degree w e))

  abbrev less : Assignment → Assignment
  less a = only (is_met t) (compact w) a

  abbrev more : Assignment → Assignment
  more b = put (is_new t) (compact w) g b

  pub more-less : (a : Assignment) → Comes a → more (less a) ≡ a
  more-less a is = ap (λ x. put (is_new t) (compact w) x (less a)) (sym is.new) ∙ split-rests t (compact w) a (listed-long w d a is.among) is.rests

  pub comes-goes : (a : Assignment) → Comes a → Goes (less a)
  comes-goes a is =
      let among = only-listed w d (is_met t) a graded is.among in
      let rests = only-rests t (compact w) a in
      record {
        among = among;
        rests = rests;
        choice = sym (picked-other (is_new t) (is_pending t) (pending-apart t) (compact w) g (less a)) ∙ (ap (picked (is_pending t) (compact w)) (more-less a is) ∙ is.first);
        class = class-before w t g (less a) v (listed-long w d (less a) among) rests (ap (class_of w) (more-less a is) ∙ is.class);
      }

  -- the choice after the corner
  pub after-is : (b : Assignment) → Goes b → chosen (suc t) (compact w) (more b) ≡ chosen (suc t) (compact w) (near_part w t h g)
  after-is b is =
      let near : Agrees (is_pending (suc t)) (compact w) (more b) (near_part w t (picked (is_pending t) (compact w) b) g) = agrees-fewer (λ e. is_pending t e || is_new t e) (is_pending (suc t)) (pending-near t) (compact w) (more b) (near_part w t (picked (is_pending t) (compact w) b) g) (near-same w no_fixed t within g b (listed-long w d b is.among) new-long is.rests) in
      chosen-is (suc t) (compact w) (more b)
      ∙ (agrees-picked (is_pending (suc t)) (compact w) (more b) (near_part w t (picked (is_pending t) (compact w) b) g) near
      ∙ (sym (chosen-is (suc t) (compact w) (near_part w t (picked (is_pending t) (compact w) b) g))
      ∙ ap (λ x. chosen (suc t) (compact w) (near_part w t x g)) is.choice))
    where
      no_fixed : List Rows
      no_fixed = []

  pub goes-comes : same_choice (chosen (suc t) (compact w) (near_part w t h g)) k ≡ true → (b : Assignment) → Goes b → Comes (more b)
  goes-comes test b is =
      let long = listed-long w d b is.among in
      let class : class_of w (more b) ≡ v = class-after w t g b v long is.rests is.class in
      let degree : degree_of w.heights v ≡ pos (degree_by (weights w (compact w)) (more b)) = ap (degree_of w.heights) (sym class) ∙ class_of-degree w graded (more b) in
      record {
        among = choice-listed w d (more b) graded (record {
          one_each = put-long (is_new t) (compact w) g b ∙ (listed-choice w d b is.among).one_each;
          diagrams = put-diagrams (is_new t) (compact w) g b is_option.diagrams (listed-choice w d b is.among).diagrams;
          within = omega (arith, ints);
        });
        rests = put-rests t (compact w) g b is.rests;
        after = after-is b is ∙ choice_equality.tells (chosen (suc t) (compact w) (near_part w t h g)) k test;
        class = class;
        first = picked-other (is_new t) (is_pending t) (pending-apart t) (compact w) g b ∙ is.choice;
        new = picked-put (is_new t) (compact w) g b long new-long;
      }

  less-more : (b : Assignment) → Goes b → less (more b) ≡ b
  less-more b is =
      agrees-only (is_met t) (compact w) (more b) b (agrees-other (is_new t) (is_met t) (met-apart t) (compact w) g b (listed-long w d b is.among))
      ∙ only-resting t (compact w) b (listed-long w d b is.among) is.rests

  module _ (fixed : List Rows) (i n : ℤ) (low : i ≤ℤ kept_upto w fixed d n) where
    abbrev bound : ℕ
    bound = box_bound n (lowest w fixed d)

    abbrev kept : ℕ → Assignment → ℤ → ℕ
    kept s a j = kept_at w fixed (kept_upto w fixed d n) s a j

    taken : same_choice (chosen (suc t) (compact w) (near_part w t h g)) k ≡ true → sum_of (λ a. kept (suc t) a i) (filter comes (assignments w d)) ≡ joined w fixed d (kept_upto w fixed d n) bound t h g v i
    unfolding state_number
    taken test =
        carried same_choice choice_equality (assignments w d) (assignments_once w d) comes (is_of_state w t h class_left) less more
        (λ a among on. let is = comes-is a among on in let there = comes-goes a is in (there.among, is-goes (less a) there, more-less a is))
        (λ b among on. let is = goes-is b among on in let there = goes-comes test b is in (there.among, is-comes (more b) there, less-more b is))
        (λ a. kept (suc t) a i)
        ∙ (sum_of-same (λ b. kept (suc t) (more b) i) (λ b. total_below (λ j. count (near_legs w fixed t h g) j * kept t b (before w fixed t h g i -ℤ pos j)) (suc bound)) (of_state w d t h class_left)
        (all-filter (Contains (assignments w d)) (λ b. kept (suc t) (more b) i ≡ total_below (λ j. count (near_legs w fixed t h g) j * kept t b (before w fixed t h g i -ℤ pos j)) (suc bound)) (is_of_state w t h class_left)
        (λ b among on. let is = goes-is b among on in
        kept-next w fixed t within g b (listed-long w d b among) new-long is.rests d i n low (goes-comes test b is).among
        ∙ ap (λ x. total_below (λ j. count (near_legs w fixed t x g) j * kept t b (before w fixed t x g i -ℤ pos j)) (suc bound)) is.choice)
        (assignments w d) (all-members (assignments w d)))
        ∙ exchanged (count (near_legs w fixed t h g)) (λ b j. kept t b (before w fixed t h g i -ℤ pos j)) (suc bound) (of_state w d t h class_left))

    missed : same_choice (chosen (suc t) (compact w) (near_part w t h g)) k ≡ false → sum_of (λ a. kept (suc t) a i) (filter comes (assignments w d)) ≡ 0
    missed test =
        none-of (λ a. kept (suc t) a i) (filter comes (assignments w d))
        (all-filter (Contains (assignments w d)) (λ (a : Assignment). ⊥) comes
        (λ a among on. let is = comes-is a among on in
        let there : chosen (suc t) (compact w) (near_part w t h g) ≡ k = sym (after-is (less a) (comes-goes a is)) ∙ (ap (chosen (suc t) (compact w)) (more-less a is) ∙ is.after) in
        let yes : same_choice (chosen (suc t) (compact w) (near_part w t h g)) k ≡ true = ap (λ x. same_choice x k) there ∙ choice_equality.own k in
        let no : false ≡ true = sym test ∙ yes in cc)
        (assignments w d) (all-members (assignments w d)))

    by_test : (b : Bool) → same_choice (chosen (suc t) (compact w) (near_part w t h g)) k ≡ b → sum_of (λ a. kept (suc t) a i) (filter comes (assignments w d)) ≡ cond b (joined w fixed d (kept_upto w fixed d n) bound t h g v i) 0
    by_test true test = taken test
    by_test false test = missed test

    pub one-part : sum_of (λ a. kept (suc t) a i) (filter comes (assignments w d)) ≡ cond (same_choice (chosen (suc t) (compact w) (near_part w t h g)) k) (joined w fixed d (kept_upto w fixed d n) bound t h g v i) 0
    one-part = by_test (same_choice (chosen (suc t) (compact w) (near_part w t h g)) k) refl
