-- Where a choice of extras, cell by cell in the order of cells, can end: nothing can come of it.
--
-- extras_after legs chosen cells n == the sublists of n of the cells that are extras together with the chosen ones
-- enters legs chosen c     == c is in no leg, and the cells one step lower along y and z, where there are such, are in the
--                             union of legs and chosen
-- leaves_gap legs chosen c == c is in no leg, and the cell one step higher along x is chosen
-- CutsDropNone             == where the chosen cells, c and the cells rise: no extras have the chosen cells and c where it
--                             doesn't enter, and none have the chosen cells and lack c where that leaves a gap
use Rattle.std.specs.Prelude.{◌≡◌, ℕ, ◌+◌, ◌-◌, Bool, true, false, ◌&&◌, ◌||◌, List, [], ◌∷◌, ◌++◌, filter, nat_eq}
use Rattle.std.specs.List.{list_any}
use Rattle.tv_cells.specs.declared.cell.Cell.{Cell}
use Rattle.tv_cells.specs.declared.legs.Legs.{Legs}
use Rattle.tv_cells.specs.Cells.{cell, same, rises, sublists_of}
use Rattle.tv_cells.specs.Extras.{legs_at, in_union, is_extras}

abbrev pub extras_after : Legs → List Cell → List Cell → ℕ → List (List Cell)
extras_after legs chosen cells n = filter (λ s. is_extras legs (chosen ++ s)) (sublists_of n cells)

unfoldable pub enters : Legs → List Cell → Cell → Bool
enters legs chosen c = nat_eq (legs_at legs c) 0 && ((nat_eq c.y 0 || in_union legs chosen (cell c.x (c.y - 1) c.z)) && (nat_eq c.z 0 || in_union legs chosen (cell c.x c.y (c.z - 1))))

unfoldable pub leaves_gap : Legs → List Cell → Cell → Bool
leaves_gap legs chosen c = nat_eq (legs_at legs c) 0 && list_any (same (cell (c.x + 1) c.y c.z)) chosen

pub record CutsDropNone : Type 0 where
  pub refused : (legs : Legs) (chosen : List Cell) (c : Cell) (cells : List Cell) (n : ℕ) → rises (chosen ++ c ∷ cells) ≡ true
      → enters legs chosen c ≡ false → extras_after legs (chosen ++ c ∷ []) cells n ≡ []
  pub gap : (legs : Legs) (chosen : List Cell) (c : Cell) (cells : List Cell) (n : ℕ) → rises (chosen ++ c ∷ cells) ≡ true
      → leaves_gap legs chosen c ≡ true → extras_after legs chosen cells n ≡ []
