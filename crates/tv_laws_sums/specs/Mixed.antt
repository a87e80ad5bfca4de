-- Heights of n places, of which some are those of a slice and some those of a slice of the next diagonal. They are given as a
-- function of the place; a place without end has the height top, which no other one reaches.
--
-- grows t            == slices grow from the diagonal t to the next one
-- value top s d      == the height of slice s at place d
-- before top a d     == the height of a in front of place d; top in front of the first one
-- within g top a d y == a slice of the next diagonal that interlaces with a can have the height y at place d
-- place g n i        == the place that is replaced after i others: from the last one on where slices grow, else from the first
-- is_new g n i d     == place d is among the first i that are replaced
-- mixed g top n i a h == h is a at the old places, and interlaces with a at the new ones
-- put h p y          == h, with the height y at place p
-- lowest, highest    == the bounds that the neighbours of place p set to a height that is replaced, and to the one that replaces it
-- nth g low high m   == the height that is met after m others: from the lowest on where slices grow, else from the highest
use Rattle.std.specs.Prelude.{ℕ, zero, suc, ◌+◌, ◌-◌, ℤ, pos, negsuc, Bool, true, false, cond, ◌&&◌, nat_eq, nat_lt, nat_le}
use Rattle.tv_spec_slices.specs.Slices.{Shape, at, all_below}

abbrev pub grows : ℤ → Bool
grows (pos n) = false
grows (negsuc n) = true

abbrev pub value : ℕ → Shape → ℕ → ℕ
value top s d = cond (nat_lt d s.full) top (at s d)

abbrev pub before : ℕ → (ℕ → ℕ) → ℕ → ℕ
before top a zero = top
before top a (suc d) = a d

abbrev pub within : Bool → ℕ → (ℕ → ℕ) → ℕ → ℕ → Bool
within true top a d y = nat_le (a d) y && nat_le y (before top a d)
within false top a d y = nat_le (a (suc d)) y && nat_le y (a d)

abbrev pub place : Bool → ℕ → ℕ → ℕ
place true n i = n - suc i
place false n i = i

abbrev pub is_new : Bool → ℕ → ℕ → ℕ → Bool
is_new true n i d = nat_le n (d + i)
is_new false n i d = nat_lt d i

abbrev pub mixed_at : Bool → ℕ → ℕ → ℕ → (ℕ → ℕ) → (ℕ → ℕ) → ℕ → Bool
mixed_at g top n i a h d = cond (is_new g n i d) (within g top a d (h d)) (nat_eq (h d) (a d))

abbrev pub mixed : Bool → ℕ → ℕ → ℕ → (ℕ → ℕ) → (ℕ → ℕ) → Bool
mixed g top n i a h = all_below n (mixed_at g top n i a h)

abbrev pub put : (ℕ → ℕ) → ℕ → ℕ → ℕ → ℕ
put h p y d = cond (nat_eq d p) y (h d)

abbrev pub lowest : (ℕ → ℕ) → ℕ → ℕ
lowest h p = h (suc p)

abbrev pub highest : ℕ → (ℕ → ℕ) → ℕ → ℕ
highest top h p = before top h p

abbrev pub nth : Bool → ℕ → ℕ → ℕ → ℕ
nth true low high m = low + m
nth false low high m = high - m
