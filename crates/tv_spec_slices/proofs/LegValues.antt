-- Worked values of slices and paths beside legs that are not the same when they are turned.
use Rattle.std.specs.Prelude.{◌≡◌, pos, negsuc, [], ◌∷◌, map, false, refl}
use Rattle.tv_cells.specs.declared.legs.Legs.{Legs}
use Rattle.tv_cells.specs.Extras.{empty_legs}
use Rattle.tv_spec_slices.specs.Slices.{completion}
use Rattle.tv_spec_slices.specs.Paths.{columns, shape, ways, paths, is_entry}

-- a leg of one cell along x and one of two cells along z: 1, 3, 8
abbrev two_legs : Legs
two_legs = record { along_x = 1 ∷ []; along_y = []; along_z = 2 ∷ [] }

two_legs_paths : map (paths two_legs 2) (0 ∷ 1 ∷ 2 ∷ []) ≡ 1 ∷ 3 ∷ 8 ∷ []
unfolding columns ways paths
two_legs_paths = refl

-- beside the leg (0, 0), (1, 0) along z the place (1, 1) of the middle diagonal has (1, 0) behind it, which is in the leg
abbrev wide_leg : Legs
wide_leg = record { along_x = []; along_y = []; along_z = 1 ∷ 1 ∷ [] }

wide_leg_completion : completion wide_leg (pos 0) (shape 1 (1 ∷ [])) ≡ 0
wide_leg_completion = refl

-- two boxes at diagonal -1 take two more above it, so with two boxes in all they are no entry
costly_entry : is_entry empty_legs 2 (negsuc 0) (shape 0 (2 ∷ [])) 2 ≡ false
unfolding columns ways
costly_entry = refl
