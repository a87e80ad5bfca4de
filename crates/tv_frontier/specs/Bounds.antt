-- How far each state is known: through a bound of its own, which is enough for the states after the next corner.
--
-- uptos parts          == through which exponent each family is known
-- shift_of w t h g     == by how much exponents move at corner t: the cost of the new edges less the overlap cost
-- IsAfter w d t h g p  == h on the pending edges and g on the new ones are of degree at most d together, and number p of the states
--                         after corner t is the choice after them
-- GoesNowhere w d t h g == they are of a higher degree together, or no state after corner t is the choice after them
-- NeedsAtMost w d t next h b g == the state after them, known through the bounds next, needs h through b at most
-- Suffices w d n t next h b == whatever of the states after corner t, known through the bounds next, the state h is joined to, b is
--                         enough for it
-- AllSuffice w d n t next now == so it is of each state before corner t
-- AreBounds w d n t bs == a bound for each state after t corners
-- AllReach n bs        == each bound is n at least
-- IsPlan w d n t k plan == bounds for the states after t corners, which are n at least, and then for those after t - 1, t - 2, .. of
--                         them, k lists in all, each enough for the list before it
use Rattle.std.specs.Prelude.{◌≡◌, ◌⊎◌, Contains, ℕ, suc, ◌+◌, ◌<◌, ℤ, pos, ◌-ℤ◌, ◌≤ℤ◌, ◌<ℤ◌, List, [], length, map, false, slice_index_or}
use Rattle.std.specs.List.{AllByRecursion}
use Rattle.tv_cells.specs.Costs.{overlap_cost}
use Rattle.tv_spec_plane.specs.Web.{Web, degree_of}
use Rattle.tv_spec_boxes.specs.Assignments.{Rows, no_legs, class_of, edge_costs, same_choice}
use Rattle.tv_spec_series.specs.Families.{Family}
use Rattle.tv_laws_frontier.specs.Steps.{states, options, new_part, near_part, near_legs}
use Rattle.tv_frontier.specs.Joining.{Reaches}
use Rattle.tv_frontier.specs.Rows.{after_of, IsBound}

abbrev pub uptos : {A : Type 0} → List (Family A) → List ℤ
uptos parts = map (λ f. f.upto) parts

abbrev pub shift_of : Web → ℕ → List Rows → List Rows → ℤ
shift_of w t h g = edge_costs w (new_part w t g) -ℤ pos (overlap_cost (near_legs w (no_legs w) t h g))

pub record IsAfter (w : Web) (d t : ℕ) (h g : List Rows) (p : ℕ) : Type 0 where
  pub within : degree_of w.heights (class_of w (near_part w t h g)) ≤ℤ pos d
  pub place : p < length (states w d (suc t))
  pub choice : slice_index_or (states w d (suc t)) p [] ≡ after_of w t h g

abbrev pub GoesNowhere : Web → ℕ → ℕ → List Rows → List Rows → Type 0
GoesNowhere w d t h g =
    (pos d <ℤ degree_of w.heights (class_of w (near_part w t h g)))
    ⊎ AllByRecursion (λ (k : List Rows). same_choice (after_of w t h g) k ≡ false) (states w d (suc t))

abbrev pub NeedsAtMost : Web → ℕ → ℕ → List ℤ → List Rows → ℤ → List Rows → Type 0
NeedsAtMost w d t next h b g =
    (p : ℕ) → IsAfter w d t h g p → (slice_index_or next p (pos 0) -ℤ shift_of w t h g) ≤ℤ b

abbrev pub Suffices : Web → ℕ → ℤ → ℕ → List ℤ → List Rows → ℤ → Type 0
Suffices w d n t next h b =
    (g : List Rows) (p : ℕ) → Contains (options w d t) g → IsAfter w d t h g p →
    Reaches w d n b (slice_index_or next p (pos 0)) (shift_of w t h g)

abbrev pub AllSuffice : Web → ℕ → ℤ → ℕ → List ℤ → List ℤ → Type 0
AllSuffice w d n t next now =
    (q : ℕ) → q < length (states w d t) →
    Suffices w d n t next (slice_index_or (states w d t) q []) (slice_index_or now q (pos 0))

pub record AreBounds (w : Web) (d : ℕ) (n : ℤ) (t : ℕ) (bs : List ℤ) : Type 0 where
  pub one_each : length bs ≡ length (states w d t)
  pub each : AllByRecursion (IsBound w d n) bs

abbrev pub AllReach : ℤ → List ℤ → Type 0
AllReach n bs = AllByRecursion (λ (b : ℤ). n ≤ℤ b) bs

pub record IsPlan (w : Web) (d : ℕ) (n : ℤ) (t k : ℕ) (plan : List (List ℤ)) : Type 0 where
  pub long : length plan ≡ k
  pub each : (s j : ℕ) → s + j ≡ t → j < k → AreBounds w d n s (slice_index_or plan j [])
  pub last : 0 < k → AllReach n (slice_index_or plan 0 [])
  pub steps : (s j : ℕ) → s + suc j ≡ t → suc j < k → AllSuffice w d n s (slice_index_or plan j []) (slice_index_or plan (suc j) [])
