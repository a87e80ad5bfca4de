-- One corner more: by the choice before it and the diagrams on the new edges.
use Rattle.std.specs.Prelude.{◌≡◌, Contains, ℕ, suc, ◌<◌, cond, ◌&&◌, ℤ, pos, ◌≤ℤ◌, List, length, filter}
use Rattle.std.specs.List.{AllByRecursion}
use Rattle.std.proofs.Common.{ap, ◌∙◌}
use Rattle.tv_lemmas.specs.Sums.{sum_of}
use Rattle.tv_lemmas.proofs.Members.{all-filter, all-onto, all-members}
use Rattle.tv_spec_plane.specs.Graded.{IsGraded}
use Rattle.tv_spec_plane.specs.Web.{Web, compact, degree_of}
use Rattle.tv_spec_boxes.specs.Assignments.{Rows, Assignment, assignments, same_choice}
use Rattle.tv_spec_boxes.specs.Numbers.{lowest, box_bound}
use Rattle.tv_spec_partial.specs.Partial.{is_pending, chosen}
use Rattle.tv_laws_counts.proofs.Assigned.{choices-once}
use Rattle.tv_laws_counts.proofs.Choices.{IsChoice, choices_are}
use Rattle.tv_laws_counts.proofs.Degrees.{weights}
use Rattle.tv_laws_frontier.specs.Frontier.{kept_at, is_of_state, of_state, state_number, kept_upto}
use Rattle.tv_laws_frontier.specs.Steps.{is_new, picked, states, options, near_part, joined, stepped}
use Rattle.tv_laws_frontier.specs.StepLaws.{StepOfState}
use Rattle.tv_laws_frontier.proofs.Filters.{filter-both, sum_of-same}
use Rattle.tv_laws_frontier.proofs.Parted.{sum_of-alike, parted}
use Rattle.tv_laws_frontier.proofs.Listed.{choice_equality, picked-listed}
use Rattle.tv_laws_frontier.proofs.Regrouped.{one-part}

module _ (w : Web) (fixed : List Rows) (d t : ℕ) (k : List Rows) (v : List ℤ) (i n : ℤ) (graded : IsGraded w) (most : degree_of w.heights v ≤ℤ pos d) (within : t < length w.triangles) (low : i ≤ℤ kept_upto w fixed d n) where
  abbrev kept : Assignment → ℕ
  kept a = kept_at w fixed (kept_upto w fixed d n) (suc t) a i

  abbrev by_first : List Rows → List Assignment
  by_first h = filter (λ a. same_choice (picked (is_pending t) (compact w) a) h) (of_state w d (suc t) k v)

  abbrev part : List Rows → List Rows → ℕ
  part h g = cond (same_choice (chosen (suc t) (compact w) (near_part w t h g)) k) (joined w fixed d (kept_upto w fixed d n) (box_bound n (lowest w fixed d)) t h g v i) 0

  members : AllByRecursion (Contains (assignments w d)) (of_state w d (suc t) k v)
  members = all-filter (Contains (assignments w d)) (Contains (assignments w d)) (is_of_state w (suc t) k v) (λ a among on. among) (assignments w d) (all-members (assignments w d))

  by_both : (h g : List Rows) → IsChoice (weights w (filter (is_new t) (compact w))) d g → sum_of kept (filter (λ a. same_choice (picked (is_new t) (compact w) a) g) (by_first h)) ≡ part h g
  by_both h g is =
      ap (λ xs. sum_of kept (filter (λ a. same_choice (picked (is_new t) (compact w) a) g) xs)) (filter-both (λ a. same_choice (picked (is_pending t) (compact w) a) h) (is_of_state w (suc t) k v) (assignments w d))
      ∙ (ap (sum_of kept) (filter-both (λ a. same_choice (picked (is_new t) (compact w) a) g) (λ a. is_of_state w (suc t) k v a && same_choice (picked (is_pending t) (compact w) a) h) (assignments w d))
      ∙ one-part w d t k h g v graded most within is fixed i n low)

  by_options : (h : List Rows) → sum_of kept (by_first h) ≡ sum_of (part h) (options w d t)
  by_options h =
      parted same_choice choice_equality kept (picked (is_new t) (compact w)) (options w d t) (choices-once (weights w (filter (is_new t) (compact w))) d) (by_first h)
      (all-filter (Contains (assignments w d)) (λ a. Contains (options w d t) (picked (is_new t) (compact w) a)) (λ a. same_choice (picked (is_pending t) (compact w) a) h) (λ a among on. picked-listed w d (is_new t) a graded among) (of_state w d (suc t) k v) members)
      ∙ sum_of-same (λ g. sum_of kept (filter (λ a. same_choice (picked (is_new t) (compact w) a) g) (by_first h))) (part h) (options w d t)
      (all-onto (IsChoice (weights w (filter (is_new t) (compact w))) d) (λ g. sum_of kept (filter (λ a. same_choice (picked (is_new t) (compact w) a) g) (by_first h)) ≡ part h g) (by_both h) (options w d t) (choices_are (weights w (filter (is_new t) (compact w))) d))

  pub step : state_number w fixed d (kept_upto w fixed d n) (suc t) k v i ≡ stepped w fixed d (kept_upto w fixed d n) (box_bound n (lowest w fixed d)) t k v i
  unfolding state_number stepped
  step =
      parted same_choice choice_equality kept (picked (is_pending t) (compact w)) (states w d t) (choices-once (weights w (filter (is_pending t) (compact w))) d) (of_state w d (suc t) k v)
      (all-onto (Contains (assignments w d)) (λ a. Contains (states w d t) (picked (is_pending t) (compact w) a)) (λ a among. picked-listed w d (is_pending t) a graded among) (of_state w d (suc t) k v) members)
      ∙ sum_of-alike (λ h. sum_of kept (by_first h)) (λ h. sum_of (part h) (options w d t)) by_options (states w d t)

pub step_of_state : StepOfState
step_of_state w fixed d t k v i n graded most within low = step w fixed d t k v i n graded most within low
