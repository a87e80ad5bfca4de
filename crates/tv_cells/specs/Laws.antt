-- What is true of cells, extras and cubes, as laws.
--
-- TestIsRelation     == at legs of diagrams the test of a list of extras says what the relation says
-- SublistsByLength   == the sublists of n members are those of length n among all sublists
-- ExtrasByLength     == the same of the sublists that are extras
-- CubeRises          == the cells of a cube rise strictly, so that each is there once
-- CubeHas            == the cells of the cube of side n are those with all entries below n
-- OverlapsAreInside  == at legs of diagrams a cell of more than one leg has all entries below the extent, so that it is in
--                       the cube over which the overlap cost is added up
use Rattle.std.specs.Prelude.{◌≡◌, ℕ, ◌<◌, true, ◌&&◌, List, filter, length, nat_eq, nat_lt, IsTrue, ◌↔◌}
use Rattle.std.specs.List.{list_any}
use Rattle.tv_cells.specs.declared.cell.Cell.{Cell}
use Rattle.tv_cells.specs.declared.legs.Legs.{Legs}
use Rattle.tv_cells.specs.Cells.{same, rises, cube, sublists, sublists_of}
use Rattle.tv_cells.specs.Extras.{legs_at, extent, is_extras, IsExtras, AreDiagrams}

abbrev pub TestIsRelation : Type 0
TestIsRelation = (legs : Legs) (cells : List Cell) → AreDiagrams legs → IsTrue (is_extras legs cells) ↔ IsExtras legs cells

abbrev pub SublistsByLength : Type 0
SublistsByLength = (n : ℕ) (cells : List Cell) → filter (λ s. nat_eq (length s) n) (sublists cells) ≡ sublists_of n cells

abbrev pub ExtrasByLength : Type 0
ExtrasByLength = (legs : Legs) (n : ℕ) (cells : List Cell)
    → filter (λ s. is_extras legs s && nat_eq (length s) n) (sublists cells) ≡ filter (is_extras legs) (sublists_of n cells)

abbrev pub CubeRises : Type 0
CubeRises = (n : ℕ) → rises (cube n) ≡ true

abbrev pub CubeHas : Type 0
CubeHas = (n : ℕ) (c : Cell) → list_any (same c) (cube n) ≡ (nat_lt c.x n && (nat_lt c.y n && nat_lt c.z n))

abbrev pub OverlapsAreInside : Type 0
OverlapsAreInside = (legs : Legs) (c : Cell) → AreDiagrams legs → 1 < legs_at legs c → IsTrue (list_any (same c) (cube (extent legs)))
