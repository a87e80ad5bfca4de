-- Worked values of slices one by one: which columns fit, interlace and complete, beside legs of more than one cell.
use Rattle.std.specs.Prelude.{◌≡◌, pos, negsuc, [], ◌∷◌, map, true, false, refl}
use Rattle.tv_spec_slices.specs.Falling.{falls}
use Rattle.tv_spec_slices.specs.Slices.{fits, interlaces, completion}
use Rattle.tv_spec_slices.specs.Paths.{columns, shape, fitting, ways}
use Rattle.tv_spec_slices.proofs.Values.{legs_of}

falling_lists : map falls ([] ∷ (2 ∷ 2 ∷ 1 ∷ []) ∷ (1 ∷ 2 ∷ []) ∷ (1 ∷ 0 ∷ []) ∷ (0 ∷ []) ∷ []) ≡ true ∷ true ∷ false ∷ false ∷ false ∷ []
falling_lists = refl

-- a column is at least as high as the legs, and falls
beside_high_leg : map (fits (legs_of (2 ∷ []) [] []) (pos 0)) (shape 0 [] ∷ shape 0 (1 ∷ []) ∷ shape 0 (2 ∷ []) ∷ shape 0 (2 ∷ 3 ∷ []) ∷ []) ≡ false ∷ false ∷ true ∷ false ∷ []
beside_high_leg = refl

-- on the middle diagonal only the first place is in the leg (0, 0), (1, 0) along z
beside_wide_leg : map (fits (legs_of [] [] (1 ∷ 1 ∷ [])) (pos 0)) (shape 0 [] ∷ shape 1 [] ∷ shape 2 [] ∷ []) ≡ false ∷ true ∷ false ∷ []
beside_wide_leg = refl

-- no finite column is as high as one without end
endless_interlaces : interlaces (pos 0) (shape 0 (5 ∷ [])) (shape 1 []) ≡ false
endless_interlaces = refl

-- from the middle on the next slice lies between the columns, below the middle it is the other way round
upper_interlaces : map (interlaces (pos 0) (shape 0 (3 ∷ 1 ∷ []))) (shape 0 (3 ∷ 1 ∷ []) ∷ shape 0 (1 ∷ []) ∷ shape 0 (4 ∷ []) ∷ shape 0 [] ∷ shape 0 (2 ∷ 2 ∷ []) ∷ []) ≡ true ∷ true ∷ false ∷ false ∷ false ∷ []
upper_interlaces = refl

lower_interlaces : map (interlaces (negsuc 0) (shape 0 (3 ∷ 1 ∷ []))) (shape 0 (3 ∷ 1 ∷ []) ∷ shape 0 (4 ∷ 2 ∷ 1 ∷ []) ∷ shape 0 (2 ∷ 1 ∷ []) ∷ shape 0 (3 ∷ []) ∷ shape 0 (5 ∷ 4 ∷ []) ∷ []) ≡ true ∷ true ∷ false ∷ false ∷ false ∷ []
lower_interlaces = refl

-- by extras first, then the greater column first; the legs have heights 2 and 1 at these places
fitting_above : fitting (legs_of (2 ∷ 1 ∷ []) (1 ∷ []) []) (pos 1) 1 ≡ shape 0 (2 ∷ 1 ∷ []) ∷ shape 0 (3 ∷ 1 ∷ []) ∷ shape 0 (2 ∷ 2 ∷ []) ∷ shape 0 (2 ∷ 1 ∷ 1 ∷ []) ∷ []
unfolding columns
fitting_above = refl

-- and here 1 and 0
fitting_below : fitting (legs_of (2 ∷ 1 ∷ []) (1 ∷ []) []) (negsuc 0) 2 ≡ shape 0 (1 ∷ []) ∷ shape 0 (2 ∷ []) ∷ shape 0 (1 ∷ 1 ∷ []) ∷ shape 0 (3 ∷ []) ∷ shape 0 (2 ∷ 1 ∷ []) ∷ shape 0 (1 ∷ 1 ∷ 1 ∷ []) ∷ []
unfolding columns
fitting_below = refl

-- behind a place without end the leg along x has height 1
fitting_endless : fitting (legs_of (3 ∷ 1 ∷ []) (2 ∷ []) (1 ∷ 1 ∷ [])) (pos 0) 1 ≡ shape 1 (1 ∷ []) ∷ shape 1 (2 ∷ []) ∷ shape 1 (1 ∷ 1 ∷ []) ∷ []
unfolding columns
fitting_endless = refl

-- (2, 0) takes 4 - 2, (3, 0) and (3, 1) take 3 - 2 and 3 - 1
completion_above : completion (legs_of (2 ∷ 1 ∷ []) (1 ∷ []) []) (pos 1) (shape 0 (5 ∷ 4 ∷ 3 ∷ [])) ≡ 5
completion_above = refl

-- (0, 0) takes 5 - 3, (1, 0) and (1, 1) 4 - 2 and 4 - 1, and (2, 0), (2, 1) and (2, 2) 3 - 2, 3 and 3
completion_below : completion (legs_of (2 ∷ []) (3 ∷ 1 ∷ []) []) (negsuc 0) (shape 0 (5 ∷ 4 ∷ 3 ∷ [])) ≡ 14
completion_below = refl

-- two diagonals up (3, 0) takes 2 - 1, and (4, 0) and (4, 1) take 1 each
completion_beyond : completion (legs_of [] (2 ∷ 2 ∷ 1 ∷ 1 ∷ []) []) (pos 2) (shape 0 (3 ∷ 2 ∷ 1 ∷ [])) ≡ 3
completion_beyond = refl

-- (2, 0) is in the leg along z in the second, so it takes none there; (3, 0) and (3, 1) take 1 each
completion_endless : map (λ z. completion (legs_of [] [] z) (pos 1) (shape 1 (2 ∷ 1 ∷ []))) ((2 ∷ 1 ∷ []) ∷ (1 ∷ 1 ∷ 1 ∷ []) ∷ []) ≡ 4 ∷ 2 ∷ []
completion_endless = refl

-- no way begins with a slice that has extras
begins_without_extras : map (λ s. ways (legs_of [] [] []) 1 (pos 0) 0 s 0) (shape 0 [] ∷ shape 0 (1 ∷ []) ∷ []) ≡ 1 ∷ 0 ∷ []
unfolding ways
begins_without_extras = refl
