-- Which classes a state has, and the one state before all corners and after them.
use Rattle.std.specs.Prelude.{◌≡◌, Contains, ℕ, suc, ◌<◌, Bool, true, false, cond, not, ◌&&◌, nat_lt, ℤ, pos, ◌≤ℤ◌, List, [], ◌∷◌, map, filter, length}
use Rattle.std.proofs.Common.{refl, sym, ap, ◌∙◌}
use Rattle.std.proofs.lemmas.Bool.{and_parts}
use Rattle.tv_lemmas.specs.Naturals.{as_natural}
use Rattle.tv_lemmas.proofs.Lists.{filter-none, filter-none_on}
use Rattle.tv_lemmas.proofs.Members.{all-filter, all-contains, all-members, contains-filter}
use Rattle.tv_spec_plane.specs.declared.records.CompactEdge.{CompactEdge}
use Rattle.tv_spec_plane.specs.Graded.{IsGraded}
use Rattle.tv_spec_plane.specs.Web.{Web, compact, edge_degree, degree_of}
use Rattle.tv_spec_boxes.specs.Assignments.{Rows, Assignment, class_of, choices, assignments, same_choice, same_vector, class_difference}
use Rattle.tv_spec_boxes.proofs.Vectors.{same_vector-same, same_vector_tells}
use Rattle.tv_spec_partial.specs.Partial.{is_met, is_pending, chosen, rests_on}
use Rattle.tv_laws_counts.proofs.Choices.{IsChoice, choices_are}
use Rattle.tv_laws_counts.proofs.Degrees.{weights}
use Rattle.tv_laws_signs.proofs.Whole.{compact_inside}
use Rattle.tv_laws_frontier.specs.Frontier.{only, is_of_state, of_state}
use Rattle.tv_laws_frontier.specs.Steps.{is_new, picked, put, options, new_part, near_part}
use Rattle.tv_laws_frontier.specs.StateClasses.{HasClass, ComesFrom}
use Rattle.tv_laws_frontier.specs.StepLaws.{ClassesStep, WholeClasses, EndStates}
use Rattle.tv_laws_frontier.proofs.First.{none-pending}
use Rattle.tv_laws_frontier.proofs.Listed.{choice_equality, picked-listed}
use Rattle.tv_laws_frontier.proofs.Regrouped.{Comes, Goes, comes-goes, goes-comes, goes-is, is-goes, after-is, more-less}
use Rattle.tv_laws_frontier.proofs.Whole.{of_class}

record OfState (w : Web) (d t : ℕ) (k : List Rows) (v : List ℤ) (a : Assignment) : Type 0 where
  among : Contains (assignments w d) a
  on : is_of_state w t k v a ≡ true

of-state : (w : Web) (d t : ℕ) (k : List Rows) (v : List ℤ) (a : Assignment) → Contains (of_state w d t k v) a → OfState w d t k v a
of-state w d t k v a there = all-contains (OfState w d t k v) (of_state w d t k v) a (all-filter (Contains (assignments w d)) (OfState w d t k v) (is_of_state w t k v) (λ b among on. record { among = among; on = on }) (assignments w d) (all-members (assignments w d))) there

pub option-is : (w : Web) (d t : ℕ) (g : List Rows) → Contains (options w d t) g → IsChoice (weights w (filter (is_new t) (compact w))) d g
option-is w d t g new = all-contains (IsChoice (weights w (filter (is_new t) (compact w))) d) (options w d t) g (choices_are (weights w (filter (is_new t) (compact w))) d) new

told : (w : Web) (t : ℕ) (k : List Rows) (v : List ℤ) (a : Assignment) → rests_on t (compact w) a ≡ true → chosen t (compact w) a ≡ k → class_of w a ≡ v → is_of_state w t k v a ≡ true
told w t k v a rests choice class =
    let second : same_choice (chosen t (compact w) a) k ≡ true = ap (λ x. same_choice x k) choice ∙ choice_equality.own k in
    let third : same_vector (class_of w a) v ≡ true = ap (λ u. same_vector u v) class ∙ same_vector-same v in
    all-true (rests_on t (compact w) a) (same_choice (chosen t (compact w) a) k) (same_vector (class_of w a) v) rests second third
  where
    all-true : (x y z : Bool) → x ≡ true → y ≡ true → z ≡ true → (x && (y && z)) ≡ true
    all-true x y z p q r = rw (p, q, r) refl

module _ (w : Web) (d t : ℕ) (k : List Rows) (v : List ℤ) (graded : IsGraded w) (most : degree_of w.heights v ≤ℤ pos d) (within : t < length w.triangles) where
  comes-from : (a : Assignment) → OfState w d (suc t) k v a → ComesFrom w d t k v
  comes-from a of =
      let h = picked (is_pending t) (compact w) a in
      let g = picked (is_new t) (compact w) a in
      let b = only (is_met t) (compact w) a in
      let new = picked-listed w d (is_new t) a graded of.among in
      let option = option-is w d t g new in
      let parts = and_parts (rests_on (suc t) (compact w) a) (same_choice (chosen (suc t) (compact w) a) k && same_vector (class_of w a) v) of.on in
      let last = and_parts (same_choice (chosen (suc t) (compact w) a) k) (same_vector (class_of w a) v) parts.1 in
      let is : Comes w d t k h g v graded most within option a = record {
        among = of.among;
        rests = parts.0;
        after = choice_equality.tells (chosen (suc t) (compact w) a) k last.0;
        class = same_vector_tells (class_of w a) v last.1;
        first = refl;
        new = refl;
      } in
      let there : Goes w d t k h g v graded most within option b = comes-goes w d t k h g v graded most within option a is in
      record {
        first = h;
        new = g;
        listed_first = picked-listed w d (is_pending t) a graded of.among;
        listed_new = new;
        after = sym (after-is w d t k h g v graded most within option b there) ∙ (ap (chosen (suc t) (compact w)) (more-less w d t k h g v graded most within option a is) ∙ is.after);
        class = record { witness = b; listed = contains-filter (is_of_state w t h (class_difference v (class_of w (new_part w t g)))) b (assignments w d) there.among (is-goes w d t k h g v graded most within option b there) };
      }

  goes-into : (from : ComesFrom w d t k v) → HasClass w d (suc t) k v
  goes-into from =
      let h = from.first in
      let g = from.new in
      let b = from.class.witness in
      let a = put (is_new t) (compact w) g b in
      let of = of-state w d t h (class_difference v (class_of w (new_part w t g))) b from.class.listed in
      let option = option-is w d t g from.listed_new in
      let is = goes-is w d t k h g v graded most within option b of.among of.on in
      let test : same_choice (chosen (suc t) (compact w) (near_part w t h g)) k ≡ true = ap (λ x. same_choice x k) from.after ∙ choice_equality.own k in
      let there = goes-comes w d t k h g v graded most within option test b is in
      record { witness = a; listed = contains-filter (is_of_state w (suc t) k v) a (assignments w d) there.among (told w (suc t) k v a there.rests there.after there.class) }

pub classes_step : ClassesStep
classes_step w d t k v graded most within =
    ((λ has. comes-from w d t k v graded most within has.witness (of-state w d (suc t) k v has.witness has.listed)), goes-into w d t k v graded most within)

-- ---- before all corners, and after them

pub whole_classes : WholeClasses
whole_classes w d v = (
  (λ has. let of = of-state w d (length w.triangles) [] v has.witness has.listed in record { witness = has.witness; listed = of.among; same = same_vector_tells (class_of w has.witness) v (sym (of_class w v has.witness) ∙ of.on) }),
  (λ is. record { witness = is.witness; listed = contains-filter (is_of_state w (length w.triangles) [] v) is.witness (assignments w d) is.listed (of_class w v is.witness ∙ (ap (λ u. same_vector u v) is.same ∙ same_vector-same v)) }),
)

both-taken : (b c : Bool) → b ≡ true → c ≡ true → cond b (not c) c ≡ false
both-taken b c p q = rw (p, q) refl

one-choice : (d : ℕ) → choices [] d ≡ [] ∷ []
unfolding choices
one-choice d = refl

no-degrees : (w : Web) (d : ℕ) (es : List CompactEdge) → es ≡ [] → choices (map (λ e. as_natural (edge_degree w e)) es) d ≡ [] ∷ []
no-degrees w d es none = ap (λ xs. choices (map (λ e. as_natural (edge_degree w e)) xs) d) none ∙ one-choice d

pub end_states : EndStates
end_states w d = record {
  before = no-degrees w d (filter (is_pending 0) (compact w)) (filter-none (is_pending 0) none-pending (compact w));
  after = no-degrees w d (filter (is_pending (length w.triangles)) (compact w))
      (filter-none_on (λ e. (nat_lt e.corner_c (length w.triangles) ≡ true) × (nat_lt e.corner_d (length w.triangles) ≡ true)) (is_pending (length w.triangles)) (λ e is. both-taken (nat_lt e.corner_c (length w.triangles)) (nat_lt e.corner_d (length w.triangles)) is.0 is.1) (compact w) (compact_inside w));
}
