-- What a diagram on an edge and the legs of a corner add to the Euler characteristic.
--
-- row_cost a b i n    == the sum of 1 - a i - b j over j below n
-- rows_cost a b i rows == the sum over the rows, the first of which is row i
-- edge_cost rows a b  == the sum of 1 - a i - b j over the cells (i, j) of the diagram
-- column_cost legs x y == what the cells over (x, y) add to the overlap cost: in the leg along z each cell of another
--                        leg adds 1, else each cell of both others
-- overlaps legs cells == the sum over the cells of one less than the number of legs that have it, where any has
-- overlap_cost legs   == 1 for each cell in exactly two legs, and 2 for each cell in three
use Rattle.std.specs.Prelude.{ℕ, zero, suc, ◌+◌, ◌-◌, ℤ, pos, ◌+ℤ◌, ◌-ℤ◌, ◌*ℤ◌, min, cond, slice_index, List, [], ◌∷◌}
use Rattle.tv_lemmas.specs.Sums.{sum_of}
use Rattle.tv_partition.specs.Rows.{has}
use Rattle.tv_cells.specs.declared.cell.Cell.{Cell}
use Rattle.tv_cells.specs.declared.legs.Legs.{Legs}
use Rattle.tv_cells.specs.Cells.{cube}
use Rattle.tv_cells.specs.Extras.{legs_at, extent}

-- the cells (i, j) with j below n
unfoldable pub row_cost : ℤ → ℤ → ℕ → ℕ → ℤ
row_cost a b i zero = pos 0
row_cost a b i (suc n) = row_cost a b i n +ℤ ((pos 1 -ℤ (a *ℤ pos i)) -ℤ (b *ℤ pos n))

-- the rows from row i on
unfoldable pub rows_cost : ℤ → ℤ → ℕ → List ℕ → ℤ
rows_cost a b i [] = pos 0
rows_cost a b i (row ∷ rows) = row_cost a b i row +ℤ rows_cost a b (suc i) rows

abbrev pub edge_cost : List ℕ → ℤ → ℤ → ℤ
edge_cost rows a b = rows_cost a b 0 rows

-- one less than the number of legs that have it, where any has
unfoldable pub overlaps : Legs → List Cell → ℕ
overlaps legs cells = sum_of (λ c. legs_at legs c - 1) cells

abbrev pub column_cost : Legs → ℕ → ℕ → ℕ
column_cost legs x y =
    cond (has legs.along_z x y)
    (slice_index legs.along_x y + slice_index legs.along_y x)
    (min (slice_index legs.along_x y) (slice_index legs.along_y x))

-- a cell in two legs has all entries below the extent
unfoldable pub overlap_cost : Legs → ℕ
overlap_cost legs = overlaps legs (cube (extent legs))
