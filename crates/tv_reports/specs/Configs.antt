-- The lines of box configurations, from the parts that are printed.
--
-- boxes_title, config_title == the first line of the report, and of a configuration
-- plain_class d v  == the section of the class v of degree d, without terms
-- cells_of extras  == the boxes of each corner
-- row_spaced n     == a space and the number
-- rows_spaced rows == a space and the number, for each row
-- leg_front e      == what the line of an edge has before its rows
use Rattle.std.specs.Prelude.{ℕ, ℤ, pos, List, [], ◌∷◌, ◌++◌, map, codes}
use Rattle.std.specs.List.{flat_map}
use Rattle.std.specs.Global.{Vec}
use Rattle.tv_spec_plane.specs.declared.records.CompactEdge.{CompactEdge}
use Rattle.tv_cells.specs.declared.cell.Cell.{Cell}
use Rattle.tv_spec_text.specs.Lines.{Line, spelled}
use Rattle.tv_spec_text.specs.Reports.{Section}

abbrev pub boxes_title : Line
boxes_title = codes "report" ∷ codes "boxes" ∷ []

abbrev pub config_title : Line
config_title = codes "config" ∷ []

abbrev pub plain_class : ℤ → List ℤ → Section
plain_class d v = record { degree = d; entries = v; terms = [] }

abbrev pub cells_of : List (Vec Cell) → List (List Cell)
cells_of extras = map (λ (cells : Vec Cell). cells.items) extras

abbrev pub row_spaced : ℕ → List ℕ
row_spaced n = 32 ∷ spelled (pos n)

abbrev pub rows_spaced : List ℕ → List ℕ
rows_spaced rows = flat_map row_spaced rows

abbrev pub leg_front : CompactEdge → List ℕ
leg_front e = codes "leg " ++ (spelled (pos e.a) ++ (codes " " ++ spelled (pos e.b)))
