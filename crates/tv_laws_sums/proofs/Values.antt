-- Worked values of heights that are replaced.
use Rattle.std.specs.Prelude.{◌≡◌, pos, negsuc, [], ◌∷◌, map, true, false, refl}
use Rattle.tv_cells.specs.declared.legs.Legs.{Legs}
use Rattle.tv_spec_slices.specs.Paths.{columns, shape, ways}
use Rattle.tv_laws_sums.specs.Mixed.{grows, value, place, mixed, put}
use Rattle.tv_laws_sums.specs.Sums.{left, spent, through}

abbrev pub no_legs : Legs
no_legs = record { along_x = []; along_y = []; along_z = [] }

-- one column without end and one of height 2
values : map (value 9 (shape 1 (2 ∷ []))) (0 ∷ 1 ∷ 2 ∷ []) ≡ 9 ∷ 2 ∷ 0 ∷ []
values = refl

-- of three places the last is replaced first below the middle diagonal, and the first one from there on
places : map (place (grows (negsuc 0)) 3) (0 ∷ 1 ∷ 2 ∷ []) ≡ 2 ∷ 1 ∷ 0 ∷ []
places = refl

places_above : map (place (grows (pos 0)) 3) (0 ∷ 1 ∷ 2 ∷ []) ≡ 0 ∷ 1 ∷ 2 ∷ []
places_above = refl

-- heights 2 and 1 stand beside the height 1 on the diagonal below the middle, heights 1 and 2 do not
grown : mixed true 5 3 3 (value 5 (shape 0 (1 ∷ []))) (value 5 (shape 0 (2 ∷ 1 ∷ []))) ≡ true
grown = refl

not_grown : mixed true 5 3 3 (value 5 (shape 0 (1 ∷ []))) (value 5 (shape 0 (1 ∷ 2 ∷ []))) ≡ false
not_grown = refl

-- half way: the last two of three places are replaced, the first one is as it was
half_way : mixed true 5 3 2 (value 5 (shape 0 (1 ∷ []))) (value 5 (shape 0 (1 ∷ 1 ∷ []))) ≡ true
half_way = refl

half_way_changed : mixed true 5 3 2 (value 5 (shape 0 (1 ∷ []))) (value 5 (shape 0 (2 ∷ 1 ∷ []))) ≡ false
half_way_changed = refl

-- a column of two boxes on the middle diagonal costs 2; before it was replaced it left the box that was there
costs : spent no_legs (negsuc 0) 2 2 (value 5 (shape 0 (2 ∷ []))) ≡ 2
costs = refl

leaves : left no_legs (negsuc 0) 2 0 (value 5 (shape 0 (1 ∷ []))) ≡ 1
leaves = refl

-- up to one box on the middle diagonal: by itself with cost 1, beside one box below with cost 2
ways_up : map (through no_legs 2 (negsuc 0) 5 2 2 (shape 0 [] ∷ shape 0 (1 ∷ []) ∷ []) (value 5 (shape 0 (1 ∷ [])))) (0 ∷ 1 ∷ 2 ∷ []) ≡ 0 ∷ 1 ∷ 1 ∷ []
unfolding columns ways through
ways_up = refl

-- half way, where the first place still has the height it had
ways_half : map (through no_legs 2 (negsuc 0) 5 2 1 (shape 0 [] ∷ shape 0 (1 ∷ []) ∷ []) (put (value 5 (shape 0 [])) 1 1)) (0 ∷ 1 ∷ 2 ∷ []) ≡ 0 ∷ 0 ∷ 0 ∷ []
unfolding columns ways through
ways_half = refl
