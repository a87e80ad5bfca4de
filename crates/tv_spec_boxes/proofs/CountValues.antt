-- Worked values of counts in degree 2, and of the bound of one in degree 1.
use Rattle.std.specs.Prelude.{◌≡◌, pos, negsuc, [], ◌∷◌, map, refl}
use Rattle.tv_spec_plane.specs.Plane.{turn}
use Rattle.tv_spec_plane.specs.Web.{compact, outer, edge_ref, edge_ratio}
use Rattle.tv_spec_plane.proofs.Examples.{conifold, local_p2}
use Rattle.tv_partition.specs.Rows.{diagrams, diagrams_within}
use Rattle.tv_cells.specs.Cells.{cube, sublists_of}
use Rattle.tv_cells.specs.Costs.{row_cost, rows_cost, overlap_cost, overlaps}
use Rattle.tv_spec_boxes.specs.Assignments.{no_legs, assignments, choices}
use Rattle.tv_spec_boxes.specs.Configurations.{signed_count, fillings}
use Rattle.tv_spec_boxes.specs.Numbers.{lowest, least, crowd}

-- the conifold in degree 2: -2, 8 from exponent 3; both diagrams of two cells count, [2] and [1, 1]
conifold_second : map (signed_count conifold (no_legs conifold) (negsuc 1 ∷ pos 2 ∷ negsuc 1 ∷ pos 2 ∷ [])) (pos 3 ∷ pos 4 ∷ []) ≡ negsuc 1 ∷ pos 8 ∷ []
unfolding conifold signed_count fillings assignments choices compact outer edge_ref edge_ratio turn diagrams diagrams_within cube sublists_of row_cost rows_cost overlap_cost overlaps
conifold_second = refl

-- through degree 2 and exponent 0 the line of local P^2 has 3 assignments, and with at most 0 - 2 * -1 boxes each 27 configurations
local_p2_crowd : crowd local_p2 (no_legs local_p2) 2 (pos 0) (negsuc 2 ∷ pos 1 ∷ pos 1 ∷ pos 1 ∷ []) ≡ 81
unfolding local_p2 crowd lowest least fillings assignments choices compact outer edge_ref edge_ratio turn diagrams diagrams_within cube sublists_of row_cost rows_cost overlap_cost overlaps
local_p2_crowd = refl
