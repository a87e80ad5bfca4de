-- The slices of a corner: slice t holds the cells with x - y = t, a column of cells at each place of that diagonal.
--
-- Shape             == the number of places at its front whose column has no end, and the heights of the further columns
-- same_shape a b     == the two slices are one
-- at s d            == the height at place d, 0 past the last one; it says nothing at a place without end
-- reach s           == the number of places up to the last column
-- covers a d b e    == the column of a at d is at least as high as that of b at e; one without end is higher than every
--                      finite one, and as high as another without end
-- all_below n test  == the test holds for 0, 1, .., n - 1
-- interlaces_at t a b d == so at place d
-- interlaces t a b  == slice a at t and slice b at t + 1 interlace: a(d) >= b(d) >= a(d + 1) for t from 0 on, and
--                      b(d) >= a(d) >= b(d + 1) below
-- base legs x y, base_at legs t d == the height of the legs along x and y at (x, y), and at place d of slice t
-- is_endless legs t d == place d of slice t lies in the leg along z
-- fits_at legs t s d == place d of slice t is as the legs ask
-- fits legs t s     == the heights fall and none is 0; exactly the places in the leg along z have no end, and each other
--                      column is at least as high as the legs there
-- over legs t h d   == by how much a column of height h at place d of slice t is higher than the legs; 0 in the leg along z
-- extras_of legs t s == the number of extras of the slice
-- completion legs t s == the number of extras on the diagonals above t, where at (x, y) stands the greater of the height of
--                      the legs and the height of the slice at (x, x - t): the least that completes it
use Rattle.std.specs.Prelude.{ℕ, zero, suc, ◌+◌, ◌-◌, ℤ, pos, negsuc, max, List, length, slice_index, Bool, true, not, cond, ◌&&◌, ◌||◌, nat_eq, nat_lt, nat_le}
use Rattle.std.specs.Cmp.Lexicographic.{pointwise}
use Rattle.tv_lemmas.specs.Sums.{sum_of}
use Rattle.tv_partition.specs.Rows.{has}
use Rattle.tv_cells.specs.declared.legs.Legs.{Legs}
use Rattle.tv_cells.specs.Cells.{below, x_from, y_from}
use Rattle.tv_cells.specs.Extras.{extent}
use Rattle.tv_spec_slices.specs.Falling.{falls}

pub record Shape : Type 0 where
  pub full : ℕ
  pub heights : List ℕ

abbrev pub same_shape : Shape → Shape → Bool
same_shape a b = nat_eq a.full b.full && pointwise nat_eq a.heights b.heights

abbrev pub at : Shape → ℕ → ℕ
at s d = slice_index s.heights (d - s.full)

abbrev pub reach : Shape → ℕ
reach s = s.full + length s.heights

abbrev pub covers : Shape → ℕ → Shape → ℕ → Bool
covers a d b e = nat_lt d a.full || (nat_le b.full e && nat_le (at b e) (at a d))

abbrev pub all_below : ℕ → (ℕ → Bool) → Bool
all_below zero test = true
all_below (suc n) test = all_below n test && test n

abbrev pub interlaces_at : ℤ → Shape → Shape → ℕ → Bool
interlaces_at (pos n) a b d = covers a d b d && covers b d a (suc d)
interlaces_at (negsuc n) a b d = covers b d a d && covers a d b (suc d)

abbrev pub interlaces : ℤ → Shape → Shape → Bool
interlaces t a b = all_below (max (reach a) (reach b)) (interlaces_at t a b)

abbrev pub base : Legs → ℕ → ℕ → ℕ
base legs x y = max (slice_index legs.along_x y) (slice_index legs.along_y x)

abbrev pub base_at : Legs → ℤ → ℕ → ℕ
base_at legs t d = base legs (d + x_from t) (d + y_from t)

abbrev pub is_endless : Legs → ℤ → ℕ → Bool
is_endless legs t d = has legs.along_z (d + x_from t) (d + y_from t)

abbrev pub fits_at : Legs → ℤ → Shape → ℕ → Bool
fits_at legs t s d = cond (nat_lt d s.full) (is_endless legs t d) (not (is_endless legs t d) && nat_le (base_at legs t d) (at s d))

abbrev pub fits : Legs → ℤ → Shape → Bool
fits legs t s = falls s.heights && all_below (max (reach s) (extent legs)) (fits_at legs t s)

abbrev pub over : Legs → ℤ → ℕ → ℕ → ℕ
over legs t h d = cond (is_endless legs t d) 0 (h - base_at legs t d)

abbrev pub extras_of : Legs → ℤ → Shape → ℕ
extras_of legs t s = sum_of (λ d. over legs t (at s d) d) (below (reach s))

-- how many of the cells (x, y) with the x of that place and with y below x - t, which are those above diagonal t
abbrev pub above : Legs → ℤ → Shape → ℕ → ℕ
above legs t s d = sum_of (λ y. cond (has legs.along_z (d + x_from t) y) 0 (at s d - base legs (d + x_from t) y)) (below (d + y_from t))

abbrev pub completion : Legs → ℤ → Shape → ℕ
completion legs t s = sum_of (above legs t s) (below (reach s))
