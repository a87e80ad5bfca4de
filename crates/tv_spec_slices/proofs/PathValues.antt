-- Worked values of the steps of paths: falling columns, chains from a diagonal on, and entries off the middle.
use Rattle.std.specs.Prelude.{◌≡◌, pos, negsuc, [], ◌∷◌, map, refl}
use Rattle.tv_cells.specs.declared.legs.Legs.{Legs}
use Rattle.tv_cells.specs.Extras.{empty_legs}
use Rattle.tv_spec_slices.specs.Paths.{columns, shape, ways, paths, next_of, start_for, ways_at, entries}

abbrev leg_x : Legs
leg_x = record { along_x = 3 ∷ 1 ∷ []; along_y = []; along_z = [] }

-- two columns at most, over legs of heights 3 and 1, with five extras: a later one is as high as the one before at most
falling_columns : columns leg_x (pos 0) 0 2 9 5 ≡ (8 ∷ 1 ∷ []) ∷ (7 ∷ 2 ∷ []) ∷ (6 ∷ 3 ∷ []) ∷ (5 ∷ 4 ∷ []) ∷ []
unfolding columns
falling_columns = refl

-- one column at most, and none above a height of 3
few_columns : columns empty_legs (pos 0) 0 1 9 2 ∷ columns leg_x (pos 0) 0 2 3 1 ∷ [] ≡ ((2 ∷ []) ∷ []) ∷ ((3 ∷ 2 ∷ []) ∷ []) ∷ []
unfolding columns
few_columns = refl

-- from diagonal -2 to a column of two at the middle: at -1 stand none, one or two; three are above the budget of one slice
chains : map (ways empty_legs 2 (negsuc 1) 2 (shape 0 (2 ∷ []))) (1 ∷ 2 ∷ 3 ∷ 4 ∷ 5 ∷ []) ≡ 0 ∷ 1 ∷ 1 ∷ 1 ∷ 0 ∷ []
unfolding columns ways
chains = refl

-- from -4 to a column of three at -1, each of the two between has three as well where there are nine in all
long_chain : ways empty_legs 3 (negsuc 3) 3 (shape 0 (3 ∷ [])) 9 ≡ 1
unfolding columns ways
long_chain = refl

-- up to the empty slice at diagonal 1 there is one way with no box, one with one and two with two; to a column of one, one with two
ways_beyond : map (λ hs. map (ways_at empty_legs 2 (pos 1) (shape 0 hs)) (0 ∷ 1 ∷ 2 ∷ [])) ([] ∷ (1 ∷ []) ∷ []) ≡ (1 ∷ 1 ∷ 2 ∷ []) ∷ (0 ∷ 0 ∷ 1 ∷ []) ∷ []
unfolding columns ways
ways_beyond = refl

-- of an extent of 2, and 3 boxes: from -5, or from further down
starts : map (start_for (record { along_x = 1 ∷ []; along_y = []; along_z = 2 ∷ [] }) 3) (negsuc 8 ∷ pos 0 ∷ pos 4 ∷ []) ≡ negsuc 8 ∷ negsuc 4 ∷ negsuc 4 ∷ []
starts = refl

-- the legs alone are a path
legs_alone : paths (record { along_x = 1 ∷ []; along_y = []; along_z = 2 ∷ [] }) 0 0 ≡ 1
unfolding columns ways paths
legs_alone = refl

-- beside two places of a leg along y, of which diagonal 1 has one and diagonal 2 none
abbrev leg_y : Legs
leg_y = record { along_x = []; along_y = 1 ∷ 1 ∷ []; along_z = [] }

next_above : next_of leg_y (pos 0) (shape 0 (2 ∷ 1 ∷ [])) 1 ≡ shape 0 (1 ∷ []) ∷ shape 0 (2 ∷ []) ∷ shape 0 (1 ∷ 1 ∷ []) ∷ []
unfolding columns
next_above = refl

next_beyond : next_of leg_y (pos 1) (shape 0 (1 ∷ [])) 1 ≡ shape 0 [] ∷ shape 0 (1 ∷ []) ∷ []
unfolding columns
next_beyond = refl

-- with two boxes at most: below the middle one box takes another one above it
lower_entries : entries empty_legs 2 (negsuc 0) ≡ (shape 0 [], 0) ∷ (shape 0 (1 ∷ []), 1) ∷ []
unfolding columns ways
lower_entries = refl

upper_entries : entries empty_legs 2 (pos 1) ≡ (shape 0 [], 0) ∷ (shape 0 [], 1) ∷ (shape 0 [], 2) ∷ (shape 0 (1 ∷ []), 2) ∷ []
unfolding columns ways
upper_entries = refl
