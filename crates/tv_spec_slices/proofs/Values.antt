-- Worked values of slices and of paths.
use Rattle.std.specs.Prelude.{◌≡◌, ℕ, pos, negsuc, List, [], ◌∷◌, map, true, false, refl}
use Rattle.tv_cells.specs.declared.legs.Legs.{Legs}
use Rattle.tv_spec_slices.specs.Slices.{fits, extras_of, completion}
use Rattle.tv_spec_slices.specs.Paths.{columns, shape, ways, paths, next_of, is_entry, entries}

abbrev pub legs_of : List ℕ → List ℕ → List ℕ → Legs
legs_of x y z = record { along_x = x; along_y = y; along_z = z }

-- the neighbours at diagonal 0 of the empty slice at -1, with at most two extras
empty_neighbours : next_of (legs_of [] [] []) (negsuc 0) (shape 0 []) 2 ≡ shape 0 [] ∷ shape 0 (1 ∷ []) ∷ shape 0 (2 ∷ []) ∷ []
unfolding columns
empty_neighbours = refl

-- beside a leg of one cell along z the middle diagonal has one column without end, and no finite one stands there
endless_fits : fits (legs_of [] [] (1 ∷ [])) (pos 0) (shape 1 (2 ∷ [])) ≡ true
endless_fits = refl

finite_unfit : fits (legs_of [] [] (1 ∷ [])) (pos 0) (shape 0 (5 ∷ [])) ≡ false
finite_unfit = refl

-- heights 2 and 1 on the middle diagonal are three boxes, two of them beside a leg of one cell along x
middle_extras : extras_of (legs_of [] [] []) (pos 0) (shape 0 (2 ∷ 1 ∷ [])) ≡ 3
middle_extras = refl

beside_leg_extras : extras_of (legs_of (1 ∷ []) [] []) (pos 0) (shape 0 (2 ∷ 1 ∷ [])) ≡ 2
beside_leg_extras = refl

-- the slice of height 1 at diagonal -1 takes one box more above it
low_completion : completion (legs_of [] [] []) (negsuc 0) (shape 0 (1 ∷ [])) ≡ 1
low_completion = refl

-- beside no leg: 1, 1, 3, 6
plane_partitions : map (paths (legs_of [] [] []) 3) (0 ∷ 1 ∷ 2 ∷ 3 ∷ []) ≡ 1 ∷ 1 ∷ 3 ∷ 6 ∷ []
unfolding columns ways paths
plane_partitions = refl

-- beside a leg of one cell along each of the three: 1, 2, 5, 11
one_leg_z : map (paths (legs_of [] [] (1 ∷ [])) 3) (0 ∷ 1 ∷ 2 ∷ 3 ∷ []) ≡ 1 ∷ 2 ∷ 5 ∷ 11 ∷ []
unfolding columns ways paths
one_leg_z = refl

one_leg_x : map (paths (legs_of (1 ∷ []) [] []) 3) (0 ∷ 1 ∷ 2 ∷ 3 ∷ []) ≡ 1 ∷ 2 ∷ 5 ∷ 11 ∷ []
unfolding columns ways paths
one_leg_x = refl

one_leg_y : map (paths (legs_of [] (1 ∷ []) []) 3) (0 ∷ 1 ∷ 2 ∷ 3 ∷ []) ≡ 1 ∷ 2 ∷ 5 ∷ 11 ∷ []
unfolding columns ways paths
one_leg_y = refl

-- beside three legs of one cell: 1, 3, 9
three_legs : map (paths (legs_of (1 ∷ []) (1 ∷ []) (1 ∷ [])) 2) (0 ∷ 1 ∷ 2 ∷ []) ≡ 1 ∷ 3 ∷ 9 ∷ []
unfolding columns ways paths
three_legs = refl

-- the entries of the middle diagonal with one box at most, beside no leg: the empty slice at no cost, one box at cost 1
middle_entries : entries (legs_of [] [] []) 1 (pos 0) ≡ (shape 0 [], 0) ∷ (shape 0 (1 ∷ []), 1) ∷ []
unfolding columns ways
middle_entries = refl

-- a slice that does not fit is none
unfit_entry : is_entry (legs_of [] [] (1 ∷ [])) 1 (pos 0) (shape 0 (5 ∷ [])) 0 ≡ false
unfit_entry = refl

-- one box on the middle diagonal is one at cost 1, and at no cost it is none
box_entry : is_entry (legs_of [] [] []) 1 (pos 0) (shape 0 (1 ∷ [])) 1 ≡ true
unfolding columns ways
box_entry = refl

free_entry : is_entry (legs_of [] [] []) 1 (pos 0) (shape 0 (1 ∷ [])) 0 ≡ false
unfolding columns ways
free_entry = refl
