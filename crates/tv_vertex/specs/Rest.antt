-- What is left to count where some cells are chosen already.
--
-- rest legs chosen cells n == the number of sublists of n of the cells that are extras with the chosen cells
use Rattle.std.specs.Prelude.{ℕ, List, length}
use Rattle.tv_cells.specs.declared.cell.Cell.{Cell}
use Rattle.tv_cells.specs.declared.legs.Legs.{Legs}
use Rattle.tv_cells.specs.Cuts.{extras_after}

unfoldable pub rest : Legs → List Cell → List Cell → ℕ → ℕ
rest legs chosen cells n = length (extras_after legs chosen cells n)
