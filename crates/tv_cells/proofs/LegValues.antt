-- Worked values of counts and costs beside a leg along x and one along z: the cells (y, z) of the leg along x stand at any x.
use Rattle.std.specs.Prelude.{◌≡◌, [], ◌∷◌, map, refl}
use Rattle.tv_cells.specs.declared.legs.Legs.{Legs}
use Rattle.tv_cells.specs.Cells.{cube, sublists_of}
use Rattle.tv_cells.specs.Extras.{count}
use Rattle.tv_cells.specs.Costs.{overlap_cost, overlaps}

-- two cells high, in two cells with the leg along z
abbrev high_leg : Legs
high_leg = record { along_x = 2 ∷ []; along_y = []; along_z = 1 ∷ [] }

high_leg_overlap : overlap_cost high_leg ≡ 2
unfolding overlap_cost overlaps cube
high_leg_overlap = refl

high_leg_counts : map (count high_leg) (0 ∷ 1 ∷ 2 ∷ []) ≡ 1 ∷ 2 ∷ 6 ∷ []
unfolding count cube sublists_of
high_leg_counts = refl

-- two cells wide, in one cell with the leg along z
abbrev wide_leg : Legs
wide_leg = record { along_x = 1 ∷ 1 ∷ []; along_y = []; along_z = 1 ∷ [] }

wide_leg_overlap : overlap_cost wide_leg ≡ 1
unfolding overlap_cost overlaps cube
wide_leg_overlap = refl

wide_leg_counts : map (count wide_leg) (0 ∷ 1 ∷ 2 ∷ []) ≡ 1 ∷ 3 ∷ 8 ∷ []
unfolding count cube sublists_of
wide_leg_counts = refl
