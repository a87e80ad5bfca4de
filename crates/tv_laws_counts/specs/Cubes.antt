-- How far extras reach, as laws: a larger cube gives the same sets of extras.
--
-- IsWithin n c == all entries of the cell are below n
-- ExtrasReach  == of i extras each cell has its entries below i plus the extent of the legs
-- LargerCube   == so the sets of i extras in a larger cube are those in the cube of that side, in the same order
-- LargerCount  == and their number is the count
-- NoExtras     == there is one set of no extras
use Rattle.std.specs.Prelude.{◌≡◌, ℕ, ◌+◌, ◌<◌, ◌≤◌, true, List, filter, length}
use Rattle.std.specs.List.{list_any}
use Rattle.tv_cells.specs.declared.cell.Cell.{Cell}
use Rattle.tv_cells.specs.declared.legs.Legs.{Legs}
use Rattle.tv_cells.specs.Cells.{same, cube, sublists_of}
use Rattle.tv_cells.specs.Extras.{is_extras, AreDiagrams, extent, count}

pub record IsWithin (n : ℕ) (c : Cell) : Type 0 where
  pub x : c.x < n
  pub y : c.y < n
  pub z : c.z < n

abbrev pub ExtrasReach : Type 0
ExtrasReach = (legs : Legs) (cells : List Cell) (c : Cell) → AreDiagrams legs → is_extras legs cells ≡ true
    → list_any (same c) cells ≡ true → IsWithin (length cells + extent legs) c

abbrev pub LargerCube : Type 0
LargerCube = (legs : Legs) (i side : ℕ) → AreDiagrams legs → i ≤ side
    → filter (is_extras legs) (sublists_of i (cube (side + extent legs))) ≡ filter (is_extras legs) (sublists_of i (cube (i + extent legs)))

abbrev pub LargerCount : Type 0
LargerCount = (legs : Legs) (i side : ℕ) → AreDiagrams legs → i ≤ side
    → length (filter (is_extras legs) (sublists_of i (cube (side + extent legs)))) ≡ count legs i

abbrev pub NoExtras : Type 0
NoExtras = (legs : Legs) → count legs 0 ≡ 1
