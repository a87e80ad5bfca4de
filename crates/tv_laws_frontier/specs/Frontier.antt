-- Sums along a frontier: the corners are taken in file order, and after each there is one state for each choice of diagrams
-- on the pending edges. The diagrams on the open edges are fixed.
--
-- only p es a          == the assignment with the empty diagram in place of those on edges that p doesn't pick
-- start_after w fixed t a == the least Euler characteristic over the first t corners: the costs of the edges that are met, each
--                         from its first corner on, less the overlap costs of these corners
-- corner_legs w fixed t a == the legs of corner t
-- through m i k        == k where i is at most m, and 0 beyond
-- kept_ways w fixed m t a b == the ways to split b boxes over the first t corners, such that over the first 0, 1, .., t of them
--                         the Euler characteristic is at most m: what goes beyond m at a corner is dropped there
-- at_number f z        == f at a whole number; 0 below 0
-- kept_at w fixed m t a i == the kept ways that have the Euler characteristic i over the first t corners
-- is_of_state w t k v a == a has the empty diagram on every edge that is not met, the diagrams k on the pending edges, and
--                         class v
-- of_state w d t k v   == the assignments of degree at most d that are so
-- state_number w fixed d m t k v i == the number of what is kept in the state of k, at class v and exponent i
-- state_sum w fixed d m t k v i == the same with signs
-- kept_upto w fixed d n == n - lowest: what is kept through n at the end may stand at this exponent before
use Rattle.std.specs.Prelude.{ℕ, zero, suc, ℤ, pos, negsuc, ◌+ℤ◌, ◌-ℤ◌, ◌*ℤ◌, List, [], ◌∷◌, filter, take, slice_index_or, Bool, cond, ◌&&◌, int_le}
use Rattle.tv_lemmas.specs.Sums.{total, sum_of}
use Rattle.tv_spec_plane.specs.declared.records.CompactEdge.{CompactEdge}
use Rattle.tv_spec_plane.specs.Web.{Web, compact}
use Rattle.tv_cells.specs.declared.legs.Legs.{Legs}
use Rattle.tv_cells.specs.Extras.{count, empty_legs}
use Rattle.tv_spec_boxes.specs.Assignments.{Rows, Assignment, all_legs, class_of, edge_costs, overlaps_of, assignments, same_choice, same_vector}
use Rattle.tv_spec_boxes.specs.Numbers.{lowest}
use Rattle.tv_spec_partial.specs.Partial.{is_met, rests_on, chosen}
use Rattle.tv_laws_counts.specs.Ways.{convolved, ways, assignment_sign}

abbrev pub only : (CompactEdge → Bool) → List CompactEdge → Assignment → Assignment
only p (e ∷ es) (d ∷ a) = cond (p e) d [] ∷ only p es a
only p _ _ = []

abbrev pub start_after : Web → List Rows → ℕ → Assignment → ℤ
start_after w fixed t a = edge_costs w (only (is_met t) (compact w) a) -ℤ pos (overlaps_of (take t (all_legs w a fixed)))

abbrev pub corner_legs : Web → List Rows → ℕ → Assignment → Legs
corner_legs w fixed t a = slice_index_or (all_legs w a fixed) t empty_legs

abbrev pub through : ℤ → ℤ → ℕ → ℕ
through m i k = cond (int_le i m) k 0

unfoldable pub kept_ways : Web → List Rows → ℤ → ℕ → Assignment → ℕ → ℕ
kept_ways w fixed m zero a b = through m (start_after w fixed 0 a +ℤ pos b) (ways [] b)
kept_ways w fixed m (suc t) a b =
    through m (start_after w fixed (suc t) a +ℤ pos b)
    (convolved (kept_ways w fixed m t a) (count (corner_legs w fixed t a)) b)

abbrev pub at_number : (ℕ → ℕ) → ℤ → ℕ
at_number f (pos n) = f n
at_number f (negsuc n) = 0

abbrev pub kept_at : Web → List Rows → ℤ → ℕ → Assignment → ℤ → ℕ
kept_at w fixed m t a i = at_number (kept_ways w fixed m t a) (i -ℤ start_after w fixed t a)

abbrev pub is_of_state : Web → ℕ → List Rows → List ℤ → Assignment → Bool
is_of_state w t k v a =
    rests_on t (compact w) a && (same_choice (chosen t (compact w) a) k && same_vector (class_of w a) v)

abbrev pub of_state : Web → ℕ → ℕ → List Rows → List ℤ → List Assignment
of_state w d t k v = filter (is_of_state w t k v) (assignments w d)

unfoldable pub state_number : Web → List Rows → ℕ → ℤ → ℕ → List Rows → List ℤ → ℤ → ℕ
state_number w fixed d m t k v i = sum_of (λ a. kept_at w fixed m t a i) (of_state w d t k v)

unfoldable pub state_sum : Web → List Rows → ℕ → ℤ → ℕ → List Rows → List ℤ → ℤ → ℤ
state_sum w fixed d m t k v i = total (λ a. assignment_sign w a i *ℤ pos (kept_at w fixed m t a i)) (of_state w d t k v)

abbrev pub kept_upto : Web → List Rows → ℕ → ℤ → ℤ
kept_upto w fixed d n = n -ℤ lowest w fixed d
