-- Worked values: a file's lines, the first place at which lines leave the files, the report of one corner, and the check of
-- local P^2.
use Rattle.std.proofs.Common.{arith}
use Rattle.std.specs.Prelude.{◌≡◌, ℤ, pos, negsuc, List, [], ◌∷◌, ◌++◌, map, codes, refl}
use Rattle.std.specs.Fmt.{digits}
use Rattle.tv_spec_plane.specs.declared.records.Triple.{Triple}
use Rattle.tv_spec_plane.specs.Plane.{Point, turn}
use Rattle.tv_spec_plane.specs.Web.{compact, outer, edge_ratio}
use Rattle.tv_spec_plane.proofs.Examples.{one_corner, local_p2}
use Rattle.tv_spec_text.specs.Lines.{Line, line_text, text_of, word_lines, IsNumber}
use Rattle.tv_spec_text.specs.Files.{first_line, point_line, triangle_line, heights_line, end_line, file_lines, Fits, IsFile}
use Rattle.tv_spec_text.specs.Places.{IsPlace}
use Rattle.tv_spec_text.specs.Reports.{Term, series_text}
use Rattle.tv_spec_text.specs.Checks.{check_text}

one_corner_text : text_of (file_lines one_corner) ≡ codes "tv 1" ++ (10 ∷ []) ++ codes "point 0 0" ++ (10 ∷ []) ++ codes "point 1 0" ++ (10 ∷ []) ++ codes "point 0 1" ++ (10 ∷ []) ++ codes "triangle 0 1 2" ++ (10 ∷ []) ++ codes "heights 0 0 0" ++ (10 ∷ []) ++ codes "end" ++ (10 ∷ [])
unfolding line_text one_corner digits
one_corner_text = refl

-- CR LF ends a line as LF does, and the last line needs no end
read_lines : word_lines (codes "tv 1" ++ (13 ∷ 10 ∷ []) ++ codes "end") ≡ (codes "tv" ∷ codes "1" ∷ []) ∷ (codes "end" ∷ []) ∷ []
read_lines = refl

-- behind `tv 1` a point, a triangle or the heights may come, so that a file which ends there leaves the files at line 1
nought_fits : IsNumber (pos 0)
nought_fits = omega arith

one_fits : IsNumber (pos 1)
one_fits = omega arith

one_corner_fits : Fits one_corner
unfolding one_corner
one_corner_fits = record {
  points = ((nought_fits, nought_fits), ((one_fits, nought_fits), ((nought_fits, one_fits), tt)));
  triangles = ((omega arith, omega arith, omega arith), tt);
  heights = (nought_fits, (nought_fits, (nought_fits, tt)));
}

no_end_there : (ps : List Point) (ts : List Triple) (hs : List ℤ) (rest : List Line) → first_line ∷ end_line ∷ rest ≡ first_line ∷ (map point_line ps ++ (map triangle_line ts ++ (heights_line hs ∷ end_line ∷ []))) → ⊥
no_end_there (p ∷ ps) ts hs rest e = cc
no_end_there [] (t ∷ ts) hs rest e = cc
no_end_there [] [] hs rest e = cc

cut_file_place : IsPlace IsFile (first_line ∷ end_line ∷ []) 1
unfolding one_corner
cut_file_place = record {
  within = omega arith;
  before = (map point_line one_corner.points ++ (map triangle_line one_corner.triangles ++ (heights_line one_corner.heights ∷ end_line ∷ [])), (one_corner, record { fits = one_corner_fits; same = refl }));
  outside = λ h b. no_end_there b.1.0.points b.1.0.triangles b.1.0.heights b.0 b.1.1.same;
  short = λ e f. omega (arith, e);
}

term : ℤ → ℤ → Term
term n v = record { exponent = n; coefficient = v }

one_corner_report : series_text (codes "full") (pos 0 ∷ pos 0 ∷ pos 0 ∷ []) (pos 0) (pos 1) (record { degree = pos 0; entries = pos 0 ∷ pos 0 ∷ pos 0 ∷ []; terms = term (pos 0) (pos 1) ∷ term (pos 1) (negsuc 0) ∷ [] } ∷ []) ≡ codes "report series full" ++ (10 ∷ []) ++ codes "heights 0 0 0" ++ (10 ∷ []) ++ codes "degree 0" ++ (10 ∷ []) ++ codes "upto 1" ++ (10 ∷ []) ++ codes "class 0 0 0 0" ++ (10 ∷ []) ++ codes "term 0 1" ++ (10 ∷ []) ++ codes "term 1 -1" ++ (10 ∷ []) ++ codes "end" ++ (10 ∷ [])
unfolding line_text term digits
one_corner_report = refl

local_p2_check : check_text local_p2 ≡ codes "report check" ++ (10 ∷ []) ++ codes "points 4" ++ (10 ∷ []) ++ codes "triangles 3" ++ (10 ∷ []) ++ codes "compact 3" ++ (10 ∷ []) ++ codes "open 3" ++ (10 ∷ []) ++ codes "edge 0 1 opposite 2 3 normal -3 1 degree 1" ++ (10 ∷ []) ++ codes "edge 0 2 opposite 1 3 normal -3 1 degree 1" ++ (10 ∷ []) ++ codes "edge 0 3 opposite 1 2 normal -3 1 degree 1" ++ (10 ∷ []) ++ codes "open 1 2 corner 0" ++ (10 ∷ []) ++ codes "open 1 3 corner 2" ++ (10 ∷ []) ++ codes "open 2 3 corner 1" ++ (10 ∷ []) ++ codes "end" ++ (10 ∷ [])
unfolding line_text local_p2 compact outer edge_ratio turn digits
local_p2_check = refl
