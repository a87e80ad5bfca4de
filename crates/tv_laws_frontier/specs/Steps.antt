-- One step along a frontier: corner t is joined to what was summed before, for each choice k of diagrams on the edges that are
-- pending before it and each choice g on those that are met there first. The edges that are met there last are forgotten.
--
-- is_new t e           == the edge is met first at corner t
-- picked p es a        == the diagrams of the assignment on the edges that p picks, in their order
-- put p es g a         == the assignment a, with the diagrams g, in their order, on the edges that p picks
-- nothing es           == the empty diagram on every edge
-- choices_on w p d     == a diagram for each compact edge that p picks, sizes times degrees at most d together
-- states w d t         == so on the pending edges; options w d t, on the edges that are met first at corner t
-- new_part w t g       == the assignment with g on the new edges alone
-- near_part w t k g    == the one with k on the pending edges, too: it has the legs of corner t, and the choice after it
-- near_legs w fixed t k g == these legs
-- before w fixed t k g i == the exponent before the corner from which i is reached without extras there: the new edge costs less,
--                          and the overlap cost more
-- joined w fixed d m n t k g v i == the counts of the corner, up to n extras, convolved with the state of k, whose class is
--                          less by that of the new edges
-- stepped w fixed d m n t k v i == the sum of these over all states and options after which the choice is k
use Rattle.std.specs.Prelude.{ℕ, suc, ◌*◌, ℤ, pos, ◌+ℤ◌, ◌-ℤ◌, List, [], ◌∷◌, map, filter, Bool, cond, not, ◌&&◌}
use Rattle.tv_lemmas.specs.Naturals.{as_natural}
use Rattle.tv_lemmas.specs.Sums.{sum_of}
use Rattle.tv_ring.specs.Sums.{total_below}
use Rattle.tv_spec_plane.specs.declared.records.CompactEdge.{CompactEdge}
use Rattle.tv_spec_plane.specs.Web.{Web, compact, edge_degree}
use Rattle.tv_cells.specs.declared.legs.Legs.{Legs}
use Rattle.tv_cells.specs.Costs.{overlap_cost}
use Rattle.tv_cells.specs.Extras.{count}
use Rattle.tv_spec_boxes.specs.Assignments.{Rows, Assignment, class_of, edge_costs, choices, same_choice, class_difference}
use Rattle.tv_spec_partial.specs.Partial.{is_met, is_pending, chosen}
use Rattle.tv_laws_frontier.specs.Frontier.{corner_legs, state_number}

abbrev pub is_new : ℕ → CompactEdge → Bool
is_new t e = is_met (suc t) e && not (is_met t e)

abbrev pub picked : (CompactEdge → Bool) → List CompactEdge → Assignment → List Rows
picked p (e ∷ es) (d ∷ a) = cond (p e) (d ∷ picked p es a) (picked p es a)
picked p _ _ = []

abbrev pub put : (CompactEdge → Bool) → List CompactEdge → List Rows → Assignment → Assignment
put p (e ∷ es) (x ∷ g) (d ∷ a) = cond (p e) (x ∷ put p es g a) (d ∷ put p es (x ∷ g) a)
put p _ _ a = a

abbrev pub nothing : List CompactEdge → Assignment
nothing es = map (λ e. []) es

abbrev pub choices_on : Web → (CompactEdge → Bool) → ℕ → List (List Rows)
choices_on w p d = choices (map (λ e. as_natural (edge_degree w e)) (filter p (compact w))) d

abbrev pub states : Web → ℕ → ℕ → List (List Rows)
states w d t = choices_on w (is_pending t) d

abbrev pub options : Web → ℕ → ℕ → List (List Rows)
options w d t = choices_on w (is_new t) d

abbrev pub new_part : Web → ℕ → List Rows → Assignment
new_part w t g = put (is_new t) (compact w) g (nothing (compact w))

abbrev pub near_part : Web → ℕ → List Rows → List Rows → Assignment
near_part w t k g = put (is_new t) (compact w) g (put (is_pending t) (compact w) k (nothing (compact w)))

abbrev pub near_legs : Web → List Rows → ℕ → List Rows → List Rows → Legs
near_legs w fixed t k g = corner_legs w fixed t (near_part w t k g)

abbrev pub before : Web → List Rows → ℕ → List Rows → List Rows → ℤ → ℤ
before w fixed t k g i = (i -ℤ edge_costs w (new_part w t g)) +ℤ pos (overlap_cost (near_legs w fixed t k g))

abbrev pub joined : Web → List Rows → ℕ → ℤ → ℕ → ℕ → List Rows → List Rows → List ℤ → ℤ → ℕ
joined w fixed d m n t k g v i =
    total_below (λ j. count (near_legs w fixed t k g) j *
    state_number w fixed d m t k (class_difference v (class_of w (new_part w t g))) (before w fixed t k g i -ℤ pos j))
    (suc n)

unfoldable pub stepped : Web → List Rows → ℕ → ℤ → ℕ → ℕ → List Rows → List ℤ → ℤ → ℕ
stepped w fixed d m n t k v i =
    sum_of (λ h. sum_of (λ g. cond (same_choice (chosen (suc t) (compact w) (near_part w t h g)) k)
    (joined w fixed d m n t h g v i) 0) (options w d t)) (states w d t)
