-- Worked values of ways and coefficients.
use Rattle.std.specs.Prelude.{◌≡◌, pos, negsuc, [], ◌∷◌, map, refl}
use Rattle.tv_ring.specs.Sums.{total_below}
use Rattle.tv_spec_plane.specs.Plane.{turn}
use Rattle.tv_spec_plane.specs.Web.{compact, outer, edge_ref, edge_ratio}
use Rattle.tv_spec_plane.proofs.Examples.{conifold}
use Rattle.tv_cells.specs.Cells.{cube, sublists_of}
use Rattle.tv_cells.specs.Costs.{row_cost, rows_cost, overlap_cost, overlaps}
use Rattle.tv_cells.specs.Extras.{count, empty_legs}
use Rattle.tv_spec_boxes.specs.Assignments.{no_legs}
use Rattle.tv_laws_counts.specs.Ways.{split, convolved, ways, corner_ways, assignment_coefficient}

-- two corners without legs: the square of 1 + q + 3 q^2 + 6 q^3
two_corners : map (corner_ways (empty_legs ∷ empty_legs ∷ [])) (0 ∷ 1 ∷ 2 ∷ 3 ∷ []) ≡ 1 ∷ 2 ∷ 7 ∷ 18 ∷ []
unfolding ways convolved split total_below count cube sublists_of
two_corners = refl

-- the conifold with one cell on its edge: 1, -4, 14 from exponent 1
conifold_edge : map (assignment_coefficient conifold (no_legs conifold) ((1 ∷ []) ∷ [])) (pos 0 ∷ pos 1 ∷ pos 2 ∷ pos 3 ∷ []) ≡ pos 0 ∷ pos 1 ∷ negsuc 3 ∷ pos 14 ∷ []
unfolding conifold assignment_coefficient ways convolved split total_below count cube sublists_of compact outer edge_ref edge_ratio turn row_cost rows_cost overlap_cost overlaps
conifold_edge = refl
