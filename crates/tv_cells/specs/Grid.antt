-- Parts of a cube: columns and diagonals.
--
-- heights x y k n       == the cells at (x, y) with z from k on, n of them
-- columns x y h k n     == the columns of height h at (x + k, y + k) and the n - 1 places after it
-- diagonal_of side k    == diagonal number k of the cube of that side, number 0 being that of the greatest x
use Rattle.std.specs.Prelude.{ℕ, ◌+◌, ◌-◌, List, map}
use Rattle.std.specs.List.{flat_map, range_with_len}
use Rattle.tv_cells.specs.declared.cell.Cell.{Cell}
use Rattle.tv_cells.specs.Cells.{cell}

abbrev pub heights : ℕ → ℕ → ℕ → ℕ → List Cell
heights x y k n = map (λ z. cell x y z) (range_with_len k n)

abbrev pub columns : ℕ → ℕ → ℕ → ℕ → ℕ → List Cell
columns x y h k n = flat_map (λ d. heights (d + x) (d + y) 0 h) (range_with_len k n)

abbrev pub diagonal_of : ℕ → ℕ → List Cell
diagonal_of side k = columns ((side - 1) - k) (k - (side - 1)) side 0 (side - (((side - 1) - k) + (k - (side - 1))))
