-- Worked values of counts and costs.
use Rattle.std.specs.Prelude.{◌≡◌, pos, negsuc, [], ◌∷◌, map, length, refl, true}
use Rattle.tv_cells.specs.declared.legs.Legs.{Legs}
use Rattle.tv_cells.specs.Cells.{cell, cube, rises, sublists_of}
use Rattle.tv_cells.specs.Extras.{empty_legs, count}
use Rattle.tv_cells.specs.Costs.{edge_cost, row_cost, rows_cost, overlap_cost, overlaps}

abbrev one_leg : Legs
one_leg = record { along_x = []; along_y = []; along_z = 1 ∷ [] }

abbrev three_legs : Legs
three_legs = record { along_x = 1 ∷ []; along_y = 1 ∷ []; along_z = 1 ∷ [] }

-- the cube of side 2, diagonal by diagonal
cube_of_two : cube 2 ≡ cell 1 0 0 ∷ cell 1 0 1 ∷ cell 0 0 0 ∷ cell 0 0 1 ∷ cell 1 1 0 ∷ cell 1 1 1 ∷ cell 0 1 0 ∷ cell 0 1 1 ∷ []
unfolding cube
cube_of_two = refl

cube_rises : rises (cube 4) ≡ true
unfolding cube
cube_rises = refl

cube_length : length (cube 5) ≡ 125
unfolding cube
cube_length = refl

-- plane partitions of 0 to 3
counts_without_legs : map (count empty_legs) (0 ∷ 1 ∷ 2 ∷ 3 ∷ []) ≡ 1 ∷ 1 ∷ 3 ∷ 6 ∷ []
unfolding count cube sublists_of
counts_without_legs = refl

counts_with_three_legs : map (count three_legs) (0 ∷ 1 ∷ 2 ∷ []) ≡ 1 ∷ 3 ∷ 9 ∷ []
unfolding count cube sublists_of
counts_with_three_legs = refl

-- beside a leg of one cell along z: 1, 2, 5
counts_with_one_leg : map (count one_leg) (0 ∷ 1 ∷ 2 ∷ []) ≡ 1 ∷ 2 ∷ 5 ∷ []
unfolding count cube sublists_of
counts_with_one_leg = refl

-- three legs of one cell meet in one cell
three_legs_overlap : overlap_cost three_legs ≡ 2
unfolding overlap_cost overlaps cube
three_legs_overlap = refl

-- on an edge of normal degrees -3 and 1 the diagram [2] costs 1 + 0 and [1, 1] costs 1 + 4
costs : edge_cost (2 ∷ []) (negsuc 2) (pos 1) ≡ pos 1
unfolding row_cost rows_cost
costs = refl

costs_of_column : edge_cost (1 ∷ 1 ∷ []) (negsuc 2) (pos 1) ≡ pos 5
unfolding row_cost rows_cost
costs_of_column = refl
