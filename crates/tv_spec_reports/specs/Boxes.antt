-- The report of box configurations, one by one.
--
-- numbers rows     == the spellings of the rows
-- leg_line e rows  == the line `leg A B R0 R1 ..` of a compact edge with its diagram, or no line where that is empty
-- leg_lines es a   == such a line for each edge whose diagram isn't empty, in the order of edges
-- box_line t c     == the line `box T X Y Z`
-- box_lines t extras == the lines of the boxes of corner t, t + 1, ..
-- config_lines w c == the lines of one configuration
-- boxes_head w v chi == the first lines: heights, Euler characteristic, class and sign
-- boxes_lines w v chi == the lines of the report
-- boxes_text       == the text of those lines
use Rattle.std.specs.Prelude.{ℕ, suc, ℤ, pos, List, [], ◌∷◌, ◌++◌, map, codes}
use Rattle.std.specs.List.{flat_map}
use Rattle.tv_spec_plane.specs.declared.records.CompactEdge.{CompactEdge}
use Rattle.tv_spec_plane.specs.Web.{Web, compact, degree_of, class_sign}
use Rattle.tv_cells.specs.declared.cell.Cell.{Cell}
use Rattle.tv_spec_boxes.specs.Assignments.{Rows, no_legs}
use Rattle.tv_spec_boxes.specs.Configurations.{Configuration, configurations}
use Rattle.tv_spec_text.specs.Lines.{Line, text_of, spelled}

abbrev pub numbers : List ℕ → Line
numbers rows = map (λ n. spelled (pos n)) rows

abbrev pub leg_line : CompactEdge → Rows → List Line
leg_line e [] = []
leg_line e (row ∷ rows) = (codes "leg" ∷ spelled (pos e.a) ∷ spelled (pos e.b) ∷ numbers (row ∷ rows)) ∷ []

abbrev pub leg_lines : List CompactEdge → List Rows → List Line
leg_lines [] a = []
leg_lines (e ∷ es) [] = []
leg_lines (e ∷ es) (rows ∷ a) = leg_line e rows ++ leg_lines es a

abbrev pub box_line : ℕ → Cell → Line
box_line t c = codes "box" ∷ spelled (pos t) ∷ spelled (pos c.x) ∷ spelled (pos c.y) ∷ spelled (pos c.z) ∷ []

abbrev pub box_lines : ℕ → List (List Cell) → List Line
box_lines t [] = []
box_lines t (cells ∷ rest) = map (box_line t) cells ++ box_lines (suc t) rest

abbrev pub config_lines : Web → Configuration → List Line
config_lines w c = (codes "config" ∷ []) ∷ (leg_lines (compact w) c.diagrams ++ box_lines 0 c.extras)

abbrev pub boxes_head : Web → List ℤ → ℤ → List Line
boxes_head w v chi =
    (codes "report" ∷ codes "boxes" ∷ [])
    ∷ (codes "heights" ∷ map spelled w.heights)
    ∷ (codes "chi" ∷ spelled chi ∷ [])
    ∷ (codes "class" ∷ spelled (degree_of w.heights v) ∷ map spelled v)
    ∷ (codes "sign" ∷ spelled (class_sign w.points v chi) ∷ [])
    ∷ []

abbrev pub boxes_lines : Web → List ℤ → ℤ → List Line
boxes_lines w v chi = boxes_head w v chi ++ (flat_map (config_lines w) (configurations w (no_legs w) v chi) ++ ((codes "end" ∷ []) ∷ []))

abbrev pub boxes_text : Web → List ℤ → ℤ → List ℕ
boxes_text w v chi = text_of (boxes_lines w v chi)
