-- The cells that a path of slices takes beside the legs.
--
-- on t c               == the cell is on the diagonal with x - y = t
-- place t c            == its place there
-- in_slice legs t s c  == the cell is one of slice s at t, and of no leg
-- inside legs first slices c == it is in one of the slices, which are at first + (their number - 1), .., first
-- taken legs far slices == the cells of a path from the diagonal -far to far
use Rattle.std.specs.Prelude.{ℕ, suc, ◌+◌, ◌-◌, ℤ, pos, neg_ℤ, Bool, false, ◌&&◌, ◌||◌, nat_eq, nat_lt, List, [], ◌∷◌, filter, length}
use Rattle.tv_cells.specs.declared.cell.Cell.{Cell}
use Rattle.tv_cells.specs.declared.legs.Legs.{Legs}
use Rattle.tv_cells.specs.Cells.{x_from, y_from, cube}
use Rattle.tv_cells.specs.Extras.{legs_at}
use Rattle.tv_spec_slices.specs.Slices.{Shape, at}
use Rattle.tv_spec_slices.specs.Paths.{diagonal_at}

abbrev pub on : ℤ → Cell → Bool
on t c = nat_eq (c.x + y_from t) (c.y + x_from t)

abbrev pub place : ℤ → Cell → ℕ
place t c = c.x - x_from t

abbrev pub in_slice : Legs → ℤ → Shape → Cell → Bool
in_slice legs t s c = on t c && (nat_eq (legs_at legs c) 0 && nat_lt c.z (at s (place t c)))

unfoldable pub inside : Legs → ℤ → List Shape → Cell → Bool
inside legs first [] c = false
inside legs first (s ∷ slices) c = in_slice legs (diagonal_at first (length slices)) s c || inside legs first slices c

abbrev pub taken : Legs → ℕ → List Shape → List Cell
taken legs far slices = filter (inside legs (neg_ℤ (pos far)) slices) (cube (suc (far + far)))
