-- The report of a check: the counts of a web, its compact edges with their normal degrees and degrees, and its open edges.
--
-- title_line        == the first line
-- count_line word n == the word and the number
-- head_lines w      == the first line, and the counts of points, triangles, compact edges and open edges
-- edge_words e m n g == the line of a compact edge of the normal degrees m and n and the degree g
-- edge_line w e     == the line of that compact edge: its points, the opposite points, its normal degrees, its degree
-- open_line o       == the line of an open edge: its points and its corner
-- check_lines w     == the lines of the report, with the edges in their order
-- check_text w      == the text of those lines
use Rattle.std.specs.Prelude.{ℕ, ℤ, pos, List, [], ◌∷◌, ◌++◌, length, map, codes}
use Rattle.tv_spec_plane.specs.declared.records.CompactEdge.{CompactEdge}
use Rattle.tv_spec_plane.specs.declared.records.OuterEdge.{OuterEdge}
use Rattle.tv_spec_plane.specs.Web.{Web, compact, outer, normal_a, normal_b, edge_degree}
use Rattle.tv_spec_text.specs.Lines.{Word, Line, text_of, spelled}
use Rattle.tv_spec_text.specs.Files.{end_line}

abbrev pub title_line : Line
title_line = codes "report" ∷ codes "check" ∷ []

abbrev pub count_line : Word → ℕ → Line
count_line word n = word ∷ spelled (pos n) ∷ []

abbrev pub head_lines : Web → List Line
head_lines w =
    title_line
    ∷ count_line (codes "points") (length w.points)
    ∷ count_line (codes "triangles") (length w.triangles)
    ∷ count_line (codes "compact") (length (compact w))
    ∷ count_line (codes "open") (length (outer w))
    ∷ []

abbrev pub edge_words : CompactEdge → ℤ → ℤ → ℤ → Line
edge_words e m n g =
    codes "edge" ∷ spelled (pos e.a) ∷ spelled (pos e.b)
    ∷ codes "opposite" ∷ spelled (pos e.c) ∷ spelled (pos e.d)
    ∷ codes "normal" ∷ spelled m ∷ spelled n
    ∷ codes "degree" ∷ spelled g ∷ []

abbrev pub edge_line : Web → CompactEdge → Line
edge_line w e = edge_words e (normal_a w e) (normal_b w e) (edge_degree w e)

abbrev pub open_line : OuterEdge → Line
open_line o = codes "open" ∷ spelled (pos o.a) ∷ spelled (pos o.b) ∷ codes "corner" ∷ spelled (pos o.corner) ∷ []

abbrev pub check_lines : Web → List Line
check_lines w = head_lines w ++ (map (edge_line w) (compact w) ++ (map open_line (outer w) ++ (end_line ∷ [])))

abbrev pub check_text : Web → List ℕ
check_text w = text_of (check_lines w)
