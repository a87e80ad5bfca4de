-- Worked values of states: local P^2 after its first corner, in degree 2 through exponent 0, where the lowest is -1.
use Rattle.std.specs.Prelude.{◌≡◌, pos, negsuc, true, false, [], ◌∷◌, map, refl}
use Rattle.tv_ring.specs.Sums.{total_below}
use Rattle.tv_spec_plane.specs.Plane.{turn}
use Rattle.tv_spec_plane.specs.Web.{compact, outer, edge_ref, edge_ratio}
use Rattle.tv_spec_plane.proofs.Examples.{local_p2}
use Rattle.tv_partition.specs.Rows.{diagrams, diagrams_within}
use Rattle.tv_cells.specs.Cells.{cell, cube, sublists_of}
use Rattle.tv_cells.specs.Costs.{row_cost, rows_cost, overlap_cost, overlaps}
use Rattle.tv_cells.specs.Extras.{count}
use Rattle.tv_spec_boxes.specs.Assignments.{no_legs, assignments, choices}
use Rattle.tv_spec_boxes.specs.Configurations.{configuration}
use Rattle.tv_spec_boxes.specs.Numbers.{least, lowest}
use Rattle.tv_laws_counts.specs.Ways.{split, convolved, ways}
use Rattle.tv_laws_frontier.specs.Frontier.{kept_ways, state_number, state_sum, kept_upto}
use Rattle.tv_laws_frontier.specs.Steps.{stepped}
use Rattle.tv_laws_frontier.specs.Kept.{is_kept}

plane_lowest : lowest local_p2 (no_legs local_p2) 2 ≡ negsuc 0
unfolding local_p2 assignments choices compact outer edge_ref edge_ratio turn diagrams diagrams_within cube row_cost rows_cost overlap_cost overlaps lowest least
plane_lowest = refl

-- one cell on each of the two edges of the corner stands at 2 - 1, beyond 0, and is kept; what stands at 2 is not
plane_two_cells : map (state_sum local_p2 (no_legs local_p2) 2 (kept_upto local_p2 (no_legs local_p2) 2 (pos 0)) 1 ((1 ∷ []) ∷ (1 ∷ []) ∷ []) (negsuc 5 ∷ pos 2 ∷ pos 2 ∷ pos 2 ∷ [])) (pos 0 ∷ pos 1 ∷ pos 2 ∷ []) ≡ pos 0 ∷ negsuc 0 ∷ pos 0 ∷ []
unfolding local_p2 state_sum kept_ways ways convolved split total_below count assignments choices compact outer edge_ref edge_ratio turn diagrams diagrams_within cube sublists_of row_cost rows_cost overlap_cost overlaps lowest least
plane_two_cells = refl

-- with no box at the first corner it is kept up to 1, and not up to 0; with one box there it stands at 2
plane_kept : map (λ m. is_kept local_p2 m 1 (configuration ((1 ∷ []) ∷ (1 ∷ []) ∷ [] ∷ []) ([] ∷ []))) (pos 0 ∷ pos 1 ∷ []) ≡ false ∷ true ∷ []
unfolding local_p2 is_kept compact outer edge_ref edge_ratio turn cube row_cost rows_cost overlap_cost overlaps
plane_kept = refl

plane_dropped : map (λ m. is_kept local_p2 m 1 (configuration ((1 ∷ []) ∷ (1 ∷ []) ∷ [] ∷ []) ((cell 1 0 0 ∷ []) ∷ []))) (pos 1 ∷ pos 2 ∷ []) ≡ false ∷ true ∷ []
unfolding local_p2 is_kept compact outer edge_ref edge_ratio turn cube row_cost rows_cost overlap_cost overlaps
plane_dropped = refl

-- the first corner joined to the one state before it, with one cell on each of its edges: 1, 2 from exponent 2 - 1
plane_step : map (stepped local_p2 (no_legs local_p2) 2 (kept_upto local_p2 (no_legs local_p2) 2 (pos 0)) 2 0 ((1 ∷ []) ∷ (1 ∷ []) ∷ []) (negsuc 5 ∷ pos 2 ∷ pos 2 ∷ pos 2 ∷ [])) (pos 0 ∷ pos 1 ∷ pos 2 ∷ []) ≡ 0 ∷ 1 ∷ 2 ∷ []
unfolding local_p2 stepped state_number kept_ways ways convolved split total_below count assignments choices compact outer edge_ref edge_ratio turn diagrams diagrams_within cube sublists_of row_cost rows_cost overlap_cost overlaps lowest least
plane_step = refl
