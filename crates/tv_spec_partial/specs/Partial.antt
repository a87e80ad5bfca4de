-- Configurations over the first corners of a web, with all open edges empty: what is summed corner by corner.
--
-- is_met t e        == one of the edge's two corners is among the first t
-- is_pending t e    == exactly one of them is
-- pending w t       == the numbers of the pending edges, rising
-- is_empty rows     == the diagram has no cell
-- rests_on t es a   == the assignment has the empty diagram on every edge that is not met
-- chosen t es a     == the diagrams of the assignment on the pending edges, in their order
-- first_legs w t a  == the legs of the first t corners
-- partial_boxes_left w t a n == how many boxes bring the assignment to the Euler characteristic n over these corners
-- partial_on w t a n == the configurations with that assignment over these corners, of Euler characteristic n
-- partial_configurations w t v n == a diagram for each compact edge, empty where it is not met, and extras at each of
--                      the first t corners, of class v and Euler characteristic n, in the order of configurations
-- partial_chi w t c == the Euler characteristic: edge costs, and boxes, less the overlap costs of the first t corners
-- partial_sign w t c == (-1)^(chi + s), with s the sum of the normal degree at a times the size
-- partial_count w t choice v n == the sum of the signs over those whose diagrams on the pending edges are the choice
use Rattle.std.specs.Prelude.{ℕ, ℤ, pos, ◌+ℤ◌, ◌-ℤ◌, List, [], ◌∷◌, map, filter, length, take, slice_index_or, Bool, true, cond, not, ◌&&◌, ◌||◌, nat_eq, nat_lt}
use Rattle.std.specs.List.{flat_map}
use Rattle.tv_lemmas.specs.Sums.{total}
use Rattle.tv_spec_plane.specs.declared.records.CompactEdge.{CompactEdge}
use Rattle.tv_spec_plane.specs.Web.{Web, no_edge, compact, below, sign}
use Rattle.tv_cells.specs.declared.legs.Legs.{Legs}
use Rattle.tv_spec_boxes.specs.Assignments.{Rows, Assignment, no_legs, all_legs, assignments_of, edge_costs, edge_twist, overlaps_of, same_choice}
use Rattle.tv_spec_boxes.specs.Configurations.{Configuration, configuration, fillings_of, boxes_of}

abbrev pub is_met : ℕ → CompactEdge → Bool
is_met t e = nat_lt e.corner_c t || nat_lt e.corner_d t

abbrev pub is_pending : ℕ → CompactEdge → Bool
is_pending t e = cond (nat_lt e.corner_c t) (not (nat_lt e.corner_d t)) (nat_lt e.corner_d t)

abbrev pub pending : Web → ℕ → List ℕ
pending w t = filter (λ k. is_pending t (slice_index_or (compact w) k no_edge)) (below (length (compact w)))

abbrev pub is_empty : Rows → Bool
is_empty rows = nat_eq (length rows) 0

abbrev pub rests_on : ℕ → List CompactEdge → Assignment → Bool
rests_on t [] a = true
rests_on t (e ∷ es) [] = true
rests_on t (e ∷ es) (d ∷ a) = (is_met t e || is_empty d) && rests_on t es a

abbrev pub chosen : ℕ → List CompactEdge → Assignment → List Rows
chosen t [] a = []
chosen t (e ∷ es) [] = []
chosen t (e ∷ es) (d ∷ a) = cond (is_pending t e) (d ∷ chosen t es a) (chosen t es a)

abbrev pub first_legs : Web → ℕ → Assignment → List Legs
first_legs w t a = take t (all_legs w a (no_legs w))

abbrev pub partial_boxes_left : Web → ℕ → Assignment → ℤ → ℤ
partial_boxes_left w t a n = (n -ℤ edge_costs w a) +ℤ pos (overlaps_of (first_legs w t a))

abbrev pub partial_on : Web → ℕ → Assignment → ℤ → List Configuration
partial_on w t a n = map (configuration a) (fillings_of (first_legs w t a) (partial_boxes_left w t a n))

abbrev pub partial_configurations : Web → ℕ → List ℤ → ℤ → List Configuration
partial_configurations w t v n = flat_map (λ a. partial_on w t a n) (filter (rests_on t (compact w)) (assignments_of w v))

abbrev pub partial_chi : Web → ℕ → Configuration → ℤ
partial_chi w t c = (edge_costs w c.diagrams +ℤ pos (boxes_of c.extras)) -ℤ pos (overlaps_of (first_legs w t c.diagrams))

abbrev pub partial_sign : Web → ℕ → Configuration → ℤ
partial_sign w t c = sign (partial_chi w t c +ℤ edge_twist w c.diagrams)

unfoldable pub partial_count : Web → ℕ → List Rows → List ℤ → ℤ → ℤ
partial_count w t choice v n = total (partial_sign w t) (filter (λ c. same_choice (chosen t (compact w) c.diagrams) choice) (partial_configurations w t v n))
