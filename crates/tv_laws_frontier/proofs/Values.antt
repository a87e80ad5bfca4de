-- Worked values of states: the conifold after its first corner, in degree 1 through exponent 1.
use Rattle.std.specs.Prelude.{◌≡◌, pos, negsuc, [], ◌∷◌, map, refl}
use Rattle.tv_ring.specs.Sums.{total_below}
use Rattle.tv_spec_plane.specs.Plane.{turn}
use Rattle.tv_spec_plane.specs.Web.{compact, outer, edge_ref, edge_ratio}
use Rattle.tv_spec_plane.proofs.Examples.{conifold}
use Rattle.tv_partition.specs.Rows.{diagrams, diagrams_within}
use Rattle.tv_cells.specs.Cells.{cube, sublists_of}
use Rattle.tv_cells.specs.Costs.{row_cost, rows_cost, overlap_cost, overlaps}
use Rattle.tv_cells.specs.Extras.{count}
use Rattle.tv_spec_boxes.specs.Assignments.{no_legs, assignments, choices}
use Rattle.tv_spec_boxes.specs.Numbers.{least, lowest}
use Rattle.tv_laws_counts.specs.Ways.{split, convolved, ways}
use Rattle.tv_laws_frontier.specs.Frontier.{kept_ways, state_number, state_sum, kept_upto}
use Rattle.tv_laws_frontier.specs.Steps.{stepped}

-- with the empty diagram on its edge, class zero has 1, -1 from exponent 0
conifold_empty : map (state_sum conifold (no_legs conifold) 1 (kept_upto conifold (no_legs conifold) 1 (pos 1)) 1 ([] ∷ []) (pos 0 ∷ pos 0 ∷ pos 0 ∷ pos 0 ∷ [])) (negsuc 0 ∷ pos 0 ∷ pos 1 ∷ pos 2 ∷ []) ≡ pos 0 ∷ pos 1 ∷ negsuc 0 ∷ pos 0 ∷ []
unfolding conifold state_sum kept_ways ways convolved split total_below count assignments choices compact outer edge_ref edge_ratio turn diagrams diagrams_within cube sublists_of row_cost rows_cost overlap_cost overlaps lowest least
conifold_empty = refl

-- with one cell there, the edge's class has 1 at exponent 1
conifold_one : map (state_sum conifold (no_legs conifold) 1 (kept_upto conifold (no_legs conifold) 1 (pos 1)) 1 ((1 ∷ []) ∷ []) (negsuc 0 ∷ pos 1 ∷ negsuc 0 ∷ pos 1 ∷ [])) (pos 0 ∷ pos 1 ∷ pos 2 ∷ []) ≡ pos 0 ∷ pos 1 ∷ pos 0 ∷ []
unfolding conifold state_sum kept_ways ways convolved split total_below count assignments choices compact outer edge_ref edge_ratio turn diagrams diagrams_within cube sublists_of row_cost rows_cost overlap_cost overlaps lowest least
conifold_one = refl

-- the corner after it joins the two choices to the one state: the edge's class has 1, 4 from exponent 1, as the state has then
conifold_step : map (stepped conifold (no_legs conifold) 1 (kept_upto conifold (no_legs conifold) 1 (pos 2)) 2 1 [] (negsuc 0 ∷ pos 1 ∷ negsuc 0 ∷ pos 1 ∷ [])) (pos 0 ∷ pos 1 ∷ pos 2 ∷ []) ≡ 0 ∷ 1 ∷ 4 ∷ []
unfolding conifold stepped state_number kept_ways ways convolved split total_below count assignments choices compact outer edge_ref edge_ratio turn diagrams diagrams_within cube sublists_of row_cost rows_cost overlap_cost overlaps lowest least
conifold_step = refl

conifold_whole : map (state_number conifold (no_legs conifold) 1 (kept_upto conifold (no_legs conifold) 1 (pos 2)) 2 [] (negsuc 0 ∷ pos 1 ∷ negsuc 0 ∷ pos 1 ∷ [])) (pos 0 ∷ pos 1 ∷ pos 2 ∷ pos 3 ∷ []) ≡ 0 ∷ 1 ∷ 4 ∷ 0 ∷ []
unfolding conifold state_number kept_ways ways convolved split total_below count assignments choices compact outer edge_ref edge_ratio turn diagrams diagrams_within cube sublists_of row_cost rows_cost overlap_cost overlaps lowest least
conifold_whole = refl
