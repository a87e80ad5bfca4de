-- The boxes of a corner beside its legs, and how many sets of them there are.
--
-- bit b                 == 1 where b holds, else 0
-- legs_at legs c        == the number of legs that have the cell
-- in_union legs cells c == the cell is in a leg or among the cells
-- stands legs cells c   == the cell is in no leg, and in each direction the cell one step lower, if there is one, is in the union
-- is_extras legs cells  == each of the cells stands
-- empty_legs            == no leg has a cell
-- AreDiagrams legs      == each of the three is a diagram
-- IsDownClosed          == a set of cells that has with a cell the cells one step lower
-- IsExtras legs cells   == no cell is in a leg, and the union with the legs is closed downwards
-- extent legs           == the least number below which both entries of every cell of every diagram are
-- count legs i          == the number of sets of i extras
use Rattle.std.specs.Prelude.{◌≡◌, ℕ, suc, ◌+◌, ◌-◌, max, Bool, cond, ◌&&◌, ◌||◌, List, [], filter, length, nat_eq, nat_lt, IsTrue}
use Rattle.std.specs.List.{list_any, list_all}
use Rattle.tv_partition.specs.Rows.{has, reach, IsDiagram}
use Rattle.tv_cells.specs.declared.cell.Cell.{Cell}
use Rattle.tv_cells.specs.declared.legs.Legs.{Legs}
use Rattle.tv_cells.specs.Cells.{cell, same, cube, sublists_of}

abbrev pub bit : Bool → ℕ
bit b = cond b 1 0

abbrev pub legs_at : Legs → Cell → ℕ
legs_at legs c = (bit (has legs.along_x c.y c.z) + bit (has legs.along_y c.x c.z)) + bit (has legs.along_z c.x c.y)

abbrev pub in_union : Legs → List Cell → Cell → Bool
in_union legs cells c = nat_lt 0 (legs_at legs c) || list_any (same c) cells

abbrev pub stands : Legs → List Cell → Cell → Bool
stands legs cells c =
    nat_eq (legs_at legs c) 0
    && ((nat_eq c.x 0 || in_union legs cells (cell (c.x - 1) c.y c.z))
    && ((nat_eq c.y 0 || in_union legs cells (cell c.x (c.y - 1) c.z))
    && (nat_eq c.z 0 || in_union legs cells (cell c.x c.y (c.z - 1)))))

abbrev pub is_extras : Legs → List Cell → Bool
is_extras legs cells = list_all (stands legs cells) cells

abbrev pub empty_legs : Legs
empty_legs = record { along_x = []; along_y = []; along_z = [] }

pub record AreDiagrams (legs : Legs) : Type 0 where
  pub along_x : IsDiagram legs.along_x
  pub along_y : IsDiagram legs.along_y
  pub along_z : IsDiagram legs.along_z

-- the set of cells that P says
pub record IsDownClosed (P : Cell → Bool) : Type 0 where
  pub along_x : (x y z : ℕ) → IsTrue (P (cell (suc x) y z)) → IsTrue (P (cell x y z))
  pub along_y : (x y z : ℕ) → IsTrue (P (cell x (suc y) z)) → IsTrue (P (cell x y z))
  pub along_z : (x y z : ℕ) → IsTrue (P (cell x y (suc z))) → IsTrue (P (cell x y z))

pub record IsExtras (legs : Legs) (cells : List Cell) : Type 0 where
  pub outside : (c : Cell) → IsTrue (list_any (same c) cells) → legs_at legs c ≡ 0
  pub closed : IsDownClosed (in_union legs cells)

abbrev pub extent : Legs → ℕ
extent legs = max (reach legs.along_x) (max (reach legs.along_y) (reach legs.along_z))

unfoldable pub count : Legs → ℕ → ℕ
count legs i = length (filter (is_extras legs) (sublists_of i (cube (i + extent legs))))
