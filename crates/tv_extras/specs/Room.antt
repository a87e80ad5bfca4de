-- The cells that can be among a number of extras.
--
-- column_room legs x y h == the number of cells over (x, y), of heights below h, that are in no leg
-- row_room legs x n h    == the same over all (x, y) with y below n
-- room legs c            == the number of cells outside the legs with no entry above that of c: extras with c have them all
-- is_worth legs most c   == that number is at most `most`
-- worth_cells legs most  == the cells of which it is, from the cube of side `most` plus the extent, in their order
use Rattle.std.specs.Prelude.{ℕ, suc, ◌+◌, ◌-◌, max, Bool, cond, List, filter, nat_le, slice_index}
use Rattle.tv_ring.specs.Sums.{total_below}
use Rattle.tv_partition.specs.Rows.{has}
use Rattle.tv_cells.specs.declared.cell.Cell.{Cell}
use Rattle.tv_cells.specs.declared.legs.Legs.{Legs}
use Rattle.tv_cells.specs.Cells.{cube}
use Rattle.tv_cells.specs.Extras.{extent}

unfoldable pub column_room : Legs → ℕ → ℕ → ℕ → ℕ
column_room legs x y h = cond (has legs.along_z x y) 0 (h - max (slice_index legs.along_x y) (slice_index legs.along_y x))

unfoldable pub row_room : Legs → ℕ → ℕ → ℕ → ℕ
row_room legs x n h = total_below (λ y. column_room legs x y h) n

unfoldable pub room : Legs → Cell → ℕ
room legs c = total_below (λ x. row_room legs x (suc c.y) (suc c.z)) (suc c.x)

unfoldable pub is_worth : Legs → ℕ → Cell → Bool
is_worth legs most c = nat_le (room legs c) most

unfoldable pub worth_cells : Legs → ℕ → List Cell
worth_cells legs most = filter (is_worth legs most) (cube (most + extent legs))
