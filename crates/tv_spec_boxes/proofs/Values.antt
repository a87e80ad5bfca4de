-- Worked values of class and costs of an assignment, of the signed count and of the lowest exponent.
use Rattle.std.specs.Prelude.{◌≡◌, pos, negsuc, [], ◌∷◌, map, refl}
use Rattle.tv_spec_plane.specs.Plane.{turn}
use Rattle.tv_spec_plane.specs.Web.{compact, outer, edge_ref, edge_ratio}
use Rattle.tv_spec_plane.proofs.Examples.{one_corner, conifold, local_p2}
use Rattle.tv_partition.specs.Rows.{diagrams, diagrams_within}
use Rattle.tv_cells.specs.Cells.{cube, sublists_of}
use Rattle.tv_cells.specs.Costs.{row_cost, rows_cost, overlap_cost, overlaps}
use Rattle.tv_spec_boxes.specs.Assignments.{no_legs, class_of, edge_costs, edge_twist, assignments, choices}
use Rattle.tv_spec_boxes.specs.Configurations.{signed_count, fillings}
use Rattle.tv_spec_boxes.specs.Numbers.{lowest, least, crowd}

-- one cell on the conifold's edge: its class, the cost 1 and the twist -1
conifold_cell_class : class_of conifold ((1 ∷ []) ∷ []) ≡ negsuc 0 ∷ pos 1 ∷ negsuc 0 ∷ pos 1 ∷ []
unfolding conifold compact edge_ratio turn
conifold_cell_class = refl

conifold_cell_costs : edge_costs conifold ((1 ∷ []) ∷ []) ≡ pos 1
unfolding conifold compact edge_ratio turn row_cost rows_cost
conifold_cell_costs = refl

conifold_cell_twist : edge_twist conifold ((1 ∷ []) ∷ []) ≡ negsuc 0
unfolding conifold compact edge_ratio turn
conifold_cell_twist = refl

-- [1, 1], none and [1] on the edges of local P^2: three times the class of a line, the cost 5 + 0 + 1 and the twist -6 + 0 - 3
local_p2_cells_class : class_of local_p2 ((1 ∷ 1 ∷ []) ∷ [] ∷ (1 ∷ []) ∷ []) ≡ negsuc 8 ∷ pos 3 ∷ pos 3 ∷ pos 3 ∷ []
unfolding local_p2 compact edge_ratio turn
local_p2_cells_class = refl

local_p2_cells_costs : edge_costs local_p2 ((1 ∷ 1 ∷ []) ∷ [] ∷ (1 ∷ []) ∷ []) ≡ pos 6
unfolding local_p2 compact edge_ratio turn row_cost rows_cost
local_p2_cells_costs = refl

local_p2_cells_twist : edge_twist local_p2 ((1 ∷ 1 ∷ []) ∷ [] ∷ (1 ∷ []) ∷ []) ≡ negsuc 8
unfolding local_p2 compact edge_ratio turn
local_p2_cells_twist = refl

-- one corner: 1, -1, 3, -6
one_corner_counts : map (signed_count one_corner (no_legs one_corner) (pos 0 ∷ pos 0 ∷ pos 0 ∷ [])) (negsuc 0 ∷ pos 0 ∷ pos 1 ∷ pos 2 ∷ pos 3 ∷ []) ≡ pos 0 ∷ pos 1 ∷ negsuc 0 ∷ pos 3 ∷ negsuc 5 ∷ []
unfolding one_corner signed_count fillings assignments choices compact outer edge_ref edge_ratio turn diagrams diagrams_within cube sublists_of row_cost rows_cost overlap_cost overlaps
one_corner_counts = refl

-- the conifold in degree 1: 1, -4, 14 from exponent 1
conifold_counts : map (signed_count conifold (no_legs conifold) (negsuc 0 ∷ pos 1 ∷ negsuc 0 ∷ pos 1 ∷ [])) (pos 0 ∷ pos 1 ∷ pos 2 ∷ pos 3 ∷ []) ≡ pos 0 ∷ pos 1 ∷ negsuc 3 ∷ pos 14 ∷ []
unfolding conifold signed_count fillings assignments choices compact outer edge_ref edge_ratio turn diagrams diagrams_within cube sublists_of row_cost rows_cost overlap_cost overlaps
conifold_counts = refl

-- local P^2 in degree 1: 3, -15 from exponent 1
local_p2_counts : map (signed_count local_p2 (no_legs local_p2) (negsuc 2 ∷ pos 1 ∷ pos 1 ∷ pos 1 ∷ [])) (pos 0 ∷ pos 1 ∷ pos 2 ∷ []) ≡ pos 0 ∷ pos 3 ∷ negsuc 14 ∷ []
unfolding local_p2 signed_count fillings assignments choices compact outer edge_ref edge_ratio turn diagrams diagrams_within cube sublists_of row_cost rows_cost overlap_cost overlaps
local_p2_counts = refl

-- in degree 3 ten configurations without boxes stand at exponent 0, each of sign -1
local_p2_third : signed_count local_p2 (no_legs local_p2) (negsuc 8 ∷ pos 3 ∷ pos 3 ∷ pos 3 ∷ []) (pos 0) ≡ negsuc 9
unfolding local_p2 signed_count fillings assignments choices compact outer edge_ref edge_ratio turn diagrams diagrams_within cube sublists_of row_cost rows_cost overlap_cost overlaps
local_p2_third = refl

-- the lowest exponents of local P^2 by degree
local_p2_lowest : map (lowest local_p2 (no_legs local_p2)) (0 ∷ 1 ∷ 2 ∷ 3 ∷ []) ≡ pos 0 ∷ pos 0 ∷ negsuc 0 ∷ negsuc 2 ∷ []
unfolding local_p2 lowest least assignments choices compact outer edge_ref edge_ratio turn diagrams diagrams_within cube row_cost rows_cost overlap_cost overlaps
local_p2_lowest = refl

-- one corner through exponent 3 has 1 + 1 + 3 + 6 configurations of class zero
one_corner_crowd : crowd one_corner (no_legs one_corner) 0 (pos 3) (pos 0 ∷ pos 0 ∷ pos 0 ∷ []) ≡ 11
unfolding one_corner crowd lowest least fillings assignments choices compact outer edge_ref edge_ratio turn diagrams diagrams_within cube sublists_of row_cost rows_cost overlap_cost overlaps
one_corner_crowd = refl
