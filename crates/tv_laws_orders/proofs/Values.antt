-- Worked values of the orders, and lists in them. Above each stands what it tells apart.
use Rattle.std.specs.Prelude.{◌≡◌, true, false, pos, negsuc, List, [], ◌∷◌, map, refl}
use Rattle.tv_spec_plane.specs.Plane.{turn}
use Rattle.tv_spec_plane.specs.Web.{compact, outer, edge_ref, edge_ratio}
use Rattle.tv_spec_plane.proofs.Examples.{conifold}
use Rattle.tv_partition.specs.Rows.{diagrams, diagrams_within}
use Rattle.tv_cells.specs.declared.cell.Cell.{Cell}
use Rattle.tv_cells.specs.Cells.{cell, cube, sublists_of}
use Rattle.tv_cells.specs.Costs.{row_cost, rows_cost, overlap_cost, overlaps}
use Rattle.tv_cells.specs.Extras.{empty_legs}
use Rattle.tv_spec_boxes.specs.Assignments.{Rows, Assignment, no_legs, choices, assignments}
use Rattle.tv_spec_boxes.specs.Configurations.{Configuration, configuration, extras_of, fillings, configurations}
use Rattle.tv_laws_orders.specs.Orders.{diagram_before, set_before, assignment_before, sets_before, configuration_before}

-- ---- diagrams: fewer cells first, then the greater row

-- [2, 1] comes after [1, 1] and [3], and before [1, 1, 1] and [4]: neither lesser rows first, nor rows before sizes
diagram_places :
    map (diagram_before (2 ∷ 1 ∷ [])) ((1 ∷ 1 ∷ []) ∷ (3 ∷ []) ∷ (2 ∷ 1 ∷ []) ∷ (1 ∷ 1 ∷ 1 ∷ []) ∷ (4 ∷ []) ∷ [])
    ≡ false ∷ false ∷ false ∷ true ∷ true ∷ []
diagram_places = refl

-- with equal first rows the second ones decide
diagram_second_row : map (diagram_before (2 ∷ 2 ∷ [])) ((3 ∷ 1 ∷ []) ∷ (2 ∷ 1 ∷ 1 ∷ []) ∷ []) ≡ false ∷ true ∷ []
diagram_second_row = refl

diagrams_of_four : diagrams 4 ≡ (4 ∷ []) ∷ (3 ∷ 1 ∷ []) ∷ (2 ∷ 2 ∷ []) ∷ (2 ∷ 1 ∷ 1 ∷ []) ∷ (1 ∷ 1 ∷ 1 ∷ 1 ∷ []) ∷ []
unfolding diagrams diagrams_within
diagrams_of_four = refl

-- ---- sets of extras: fewer cells first, then the least cell that only one has

abbrev corner : Cell
corner = cell 0 0 0

abbrev along_x : Cell
along_x = cell 1 0 0

abbrev along_y : Cell
along_y = cell 0 1 0

abbrev along_z : Cell
along_z = cell 0 0 1

abbrev with_x : List Cell
with_x = along_x ∷ corner ∷ []

abbrev with_z : List Cell
with_z = corner ∷ along_z ∷ []

abbrev with_y : List Cell
with_y = corner ∷ along_y ∷ []

abbrev with_both : List Cell
with_both = corner ∷ along_z ∷ along_y ∷ []

-- the cell with the greater x is the earlier one: neither by x first, nor by cells before their number
set_places : map (set_before with_x) ((corner ∷ []) ∷ with_x ∷ with_z ∷ with_both ∷ []) ≡ false ∷ false ∷ true ∷ true ∷ []
set_places = refl

-- beside a leg along z
abbrev sides : List Cell
sides = along_x ∷ along_y ∷ []

-- neither by the first cells alone, nor by second cells where the first ones differ
set_second_cell : map (set_before with_z) (sides ∷ with_z ∷ with_y ∷ with_both ∷ []) ≡ false ∷ false ∷ true ∷ true ∷ []
set_second_cell = refl

two_extras : extras_of empty_legs 2 2 ≡ with_x ∷ with_z ∷ with_y ∷ []
unfolding cube sublists_of
two_extras = refl

-- ---- assignments: the first edge at which they differ decides

abbrev none : Rows
none = []

abbrev one : Rows
one = 1 ∷ []

abbrev row : Rows
row = 2 ∷ []

abbrev column : Rows
column = 1 ∷ 1 ∷ []

abbrev on : Rows → Rows → Assignment
on first second = first ∷ second ∷ []

-- neither by the last edge, nor by the cells of all edges together, nor by the first edge alone
assignment_places :
    map (assignment_before (on one row)) (on none column ∷ on one one ∷ on one row ∷ on one column ∷ on row none ∷ [])
    ≡ false ∷ false ∷ false ∷ true ∷ true ∷ []
assignment_places = refl

two_edges :
    choices (1 ∷ 1 ∷ []) 2
    ≡ on none none ∷ on none one ∷ on none row ∷ on none column ∷ on one none ∷ on one one ∷ on row none ∷ on column none ∷ []
unfolding choices diagrams diagrams_within
two_edges = refl

-- ---- configurations: the assignment decides, then the first corner at which the extras differ

abbrev box : List Cell
box = corner ∷ []

abbrev at : List Cell → List Cell → List (List Cell)
at first second = first ∷ second ∷ []

-- neither by the last corner, nor by the number of boxes at each alone, nor by the first corner alone
sets_places :
    map (sets_before (at with_z box)) (at box with_z ∷ at with_x with_z ∷ at with_z box ∷ at with_z with_z ∷ at with_y [] ∷ [])
    ≡ false ∷ false ∷ false ∷ true ∷ true ∷ []
sets_places = refl

-- of one edge and one corner
abbrev of : Rows → List Cell → Configuration
of rows cells = configuration (rows ∷ []) (cells ∷ [])

-- neither extras before diagrams, nor extras alone, nor diagrams alone
configuration_places :
    map (configuration_before (of one box)) (of none with_x ∷ of one [] ∷ of one box ∷ of one with_x ∷ of row [] ∷ [])
    ≡ false ∷ false ∷ false ∷ true ∷ true ∷ []
configuration_places = refl

-- one box beside the cell on the conifold's edge: at the second corner, then at the first, at each the earlier cell first
conifold_boxes :
    map (λ c. c.extras) (configurations conifold (no_legs conifold) (negsuc 0 ∷ pos 1 ∷ negsuc 0 ∷ pos 1 ∷ []) (pos 2))
    ≡ at [] (along_x ∷ []) ∷ at [] (along_y ∷ []) ∷ at (along_x ∷ []) [] ∷ at (along_z ∷ []) [] ∷ []
unfolding conifold fillings assignments choices compact outer edge_ref edge_ratio turn diagrams diagrams_within cube sublists_of row_cost rows_cost overlap_cost overlaps
conifold_boxes = refl
