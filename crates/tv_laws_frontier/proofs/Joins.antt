-- Each join, and each count of a corner that it reads, is bounded by a crowd.
use Rattle.std.specs.Prelude.{◌≡◌, Contains, ℕ, suc, ◌≤◌, cond, ℤ, pos, ◌≤ℤ◌, List, filter}
use Rattle.std.proofs.Common.{sym, ap, ◌∙◌, arith, le_trans}
use Rattle.std.proofs.lemmas.Int.{ints}
use Rattle.std.proofs.lemmas.List.{length-map}
use Rattle.tv_lemmas.specs.Naturals.{as_natural}
use Rattle.tv_lemmas.specs.Sums.{sum_of}
use Rattle.tv_lemmas.proofs.Members.{all-at, all-contains, all-members}
use Rattle.tv_lemmas.proofs.Sums.{sum_of-each}
use Rattle.tv_spec_plane.specs.Graded.{IsGraded}
use Rattle.tv_spec_plane.specs.Web.{Web, compact, edge_degree, degree_of}
use Rattle.tv_cells.specs.Extras.{empty_legs}
use Rattle.tv_spec_boxes.specs.Assignments.{Rows, all_legs, class_of, assignments, same_choice}
use Rattle.tv_spec_boxes.specs.Numbers.{lowest, box_bound}
use Rattle.tv_spec_partial.specs.Partial.{is_pending, chosen}
use Rattle.tv_laws_counts.proofs.Choices.{IsChoice, choices_are}
use Rattle.tv_laws_counts.proofs.Crowds.{crowd_of_corner}
use Rattle.tv_laws_counts.proofs.Degrees.{weights, class_of-degree}
use Rattle.tv_laws_frontier.specs.Frontier.{kept_upto}
use Rattle.tv_laws_frontier.specs.Steps.{is_new, put, nothing, states, options, near_part, near_legs, joined, stepped}
use Rattle.tv_laws_frontier.specs.Bounds.{CrowdOfJoin, CrowdOfNear}
use Rattle.tv_laws_frontier.proofs.Crowded.{crowd_of_state}
use Rattle.tv_laws_frontier.proofs.First.{nothing-long, nothing-diagrams}
use Rattle.tv_laws_frontier.proofs.Kept.{legs-long}
use Rattle.tv_laws_frontier.proofs.Placed.{put-long, put-diagrams}
use Rattle.tv_laws_frontier.proofs.Listed.{choice_equality, choice-listed}
use Rattle.tv_laws_frontier.proofs.Step.{step_of_state}

term-below : {A : Type 0} (f : A → ℕ) (x : A) (xs : List A) → Contains xs x → f x ≤ sum_of f xs
term-below f x xs among = all-contains (λ y. f y ≤ sum_of f xs) xs x (sum_of-each f xs) among

module _ (w : Web) (fixed : List Rows) (d t : ℕ) (h g : List Rows) (v : List ℤ) (i n : ℤ) (first : Contains (states w d t) h) (new : Contains (options w d t) g) where
  abbrev pub choice : List Rows
  choice = chosen (suc t) (compact w) (near_part w t h g)

  abbrev pub one : List Rows → List Rows → ℕ
  one a b = joined w fixed d (kept_upto w fixed d n) (box_bound n (lowest w fixed d)) t a b v i

  abbrev part : List Rows → List Rows → ℕ
  part a b = cond (same_choice (chosen (suc t) (compact w) (near_part w t a b)) choice) (one a b) 0

  pub join-below : one h g ≤ stepped w fixed d (kept_upto w fixed d n) (box_bound n (lowest w fixed d)) t choice v i
  unfolding stepped
  join-below =
      let here : part h g ≡ one h g = ap (λ b. cond b (one h g) 0) (choice_equality.own choice) in
      let inner : part h g ≤ sum_of (part h) (options w d t) = term-below (part h) g (options w d t) new in
      let outer : sum_of (part h) (options w d t) ≤ sum_of (λ a. sum_of (part a) (options w d t)) (states w d t) = term-below (λ a. sum_of (part a) (options w d t)) h (states w d t) first in
      le_trans (le_trans (omega arith) inner) outer

pub crowd_of_join : CrowdOfJoin
crowd_of_join w fixed d t h g v i n graded also most within low first new =
    let k = chosen (suc t) (compact w) (near_part w t h g) in
    let below = join-below w fixed d t h g v i n first new in
    let whole = step_of_state w fixed d t k v i n graded most within low in
    let bound = crowd_of_state w fixed d (suc t) k v i n graded also (omega arith) low in
    omega arith

-- the assignment that the corner sees
pub near-listed : (w : Web) (d t : ℕ) (h g : List Rows) → IsGraded w → Contains (states w d t) h → Contains (options w d t) g → degree_of w.heights (class_of w (near_part w t h g)) ≤ℤ pos d → Contains (assignments w d) (near_part w t h g)
near-listed w d t h g graded first new most =
    let old = all-contains (IsChoice (weights w (filter (is_pending t) (compact w))) d) (states w d t) h (choices_are (weights w (filter (is_pending t) (compact w))) d) first in
    let added = all-contains (IsChoice (weights w (filter (is_new t) (compact w))) d) (options w d t) g (choices_are (weights w (filter (is_new t) (compact w))) d) new in
    let degree = class_of-degree w graded (near_part w t h g) in
    let base = put (is_pending t) (compact w) h (nothing (compact w)) in
    choice-listed w d (near_part w t h g) graded (record {
      one_each = put-long (is_new t) (compact w) g base ∙ (put-long (is_pending t) (compact w) h (nothing (compact w)) ∙ (nothing-long (compact w) ∙ sym (length-map (compact w) (λ e. as_natural (edge_degree w e)))));
      diagrams = put-diagrams (is_new t) (compact w) g base added.diagrams (put-diagrams (is_pending t) (compact w) h (nothing (compact w)) old.diagrams (nothing-diagrams (compact w)));
      within = omega (arith, ints);
    })

pub crowd_of_near : CrowdOfNear
crowd_of_near w fixed d t h g n j graded also within first new most few =
    let a = near_part w t h g in
    let long = legs-long w fixed a in
    let here : Contains (all_legs w a fixed) (near_legs w fixed t h g) = all-at (Contains (all_legs w a fixed)) (all_legs w a fixed) empty_legs (all-members (all_legs w a fixed)) t (omega arith) in
    crowd_of_corner w fixed d a n (near_legs w fixed t h g) j graded also (near-listed w d t h g graded first new most) here few
