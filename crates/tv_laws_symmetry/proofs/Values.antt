-- Worked values: no leg of the first corner is its own flip, and a leg that is flipped where it must not be, or not flipped
-- where it must, makes another corner, with 3 sets of one box in place of 4 and a greater overlap cost.
use Rattle.std.specs.Prelude.{◌≡◌, List, [], ◌∷◌, map, refl}
use Rattle.tv_cells.specs.declared.legs.Legs.{Legs}
use Rattle.tv_cells.specs.Cells.{cube, sublists_of}
use Rattle.tv_cells.specs.Extras.{count}
use Rattle.tv_cells.specs.Costs.{overlap_cost, overlaps}
use Rattle.tv_laws_symmetry.specs.Symmetry.{legs_along, exchanged_xy, exchanged_yz, rotated, images}

abbrev corner : Legs
corner = legs_along (2 ∷ []) (1 ∷ 1 ∷ []) (3 ∷ [])

abbrev its_six : List Legs
its_six =
    legs_along (2 ∷ []) (1 ∷ 1 ∷ []) (3 ∷ [])
    ∷ legs_along (1 ∷ 1 ∷ []) (2 ∷ []) (1 ∷ 1 ∷ 1 ∷ [])
    ∷ legs_along (1 ∷ 1 ∷ []) (3 ∷ []) (1 ∷ 1 ∷ [])
    ∷ legs_along (1 ∷ 1 ∷ 1 ∷ []) (2 ∷ []) (1 ∷ 1 ∷ [])
    ∷ legs_along (3 ∷ []) (1 ∷ 1 ∷ []) (2 ∷ [])
    ∷ legs_along (2 ∷ []) (1 ∷ 1 ∷ 1 ∷ []) (2 ∷ [])
    ∷ []

six : images corner ≡ its_six
six = refl

a_turn : rotated corner ≡ exchanged_xy (exchanged_yz corner)
a_turn = refl

six_counts : map (λ legs. count legs 1) (images corner) ≡ 4 ∷ 4 ∷ 4 ∷ 4 ∷ 4 ∷ 4 ∷ []
unfolding count cube sublists_of
six_counts = refl

six_overlaps : map overlap_cost (images corner) ≡ 6 ∷ 6 ∷ 6 ∷ 6 ∷ 6 ∷ 6 ∷ []
unfolding overlap_cost overlaps cube
six_overlaps = refl

-- one leg flipped alone, and an exchange of x and y without a flip: other corners
abbrev others : List Legs
others =
    legs_along (1 ∷ 1 ∷ []) (1 ∷ 1 ∷ []) (3 ∷ [])
    ∷ legs_along (2 ∷ []) (2 ∷ []) (3 ∷ [])
    ∷ legs_along (2 ∷ []) (1 ∷ 1 ∷ []) (1 ∷ 1 ∷ 1 ∷ [])
    ∷ legs_along (1 ∷ 1 ∷ []) (2 ∷ []) (3 ∷ [])
    ∷ []

other_counts : map (λ legs. count legs 1) others ≡ 3 ∷ 3 ∷ 3 ∷ 3 ∷ []
unfolding count cube sublists_of
other_counts = refl

other_overlaps : map overlap_cost others ≡ 7 ∷ 8 ∷ 8 ∷ 8 ∷ []
unfolding overlap_cost overlaps cube
other_overlaps = refl
