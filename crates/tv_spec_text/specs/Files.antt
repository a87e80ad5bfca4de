-- The grammar of files, by how a web is spelled.
--
-- first_line, point_line p, triangle_line t, heights_line hs, end_line == the lines of a file
-- file_lines w  == the lines that spell a web: `tv 1`, a line for each point, a line for each triangle, the heights, `end`
-- PointFits p, TriangleFits t, Fits w == each number has a spelling of at most nine digits
-- Spells ls w   == the lines spell that web
-- IsFile ls     == the lines spell some web
use Rattle.std.specs.Prelude.{◌≡◌, ℤ, pos, List, [], ◌∷◌, ◌++◌, map, codes}
use Rattle.std.specs.List.{AllByRecursion}
use Rattle.tv_spec_plane.specs.declared.records.Triple.{Triple}
use Rattle.tv_spec_plane.specs.Plane.{Point}
use Rattle.tv_spec_plane.specs.Web.{Web}
use Rattle.tv_spec_text.specs.Lines.{Line, spelled, IsNumber, IsCount}

abbrev pub first_line : Line
first_line = codes "tv" ∷ codes "1" ∷ []

abbrev pub point_line : Point → Line
point_line p = codes "point" ∷ spelled p.x ∷ spelled p.y ∷ []

abbrev pub triangle_line : Triple → Line
triangle_line t = codes "triangle" ∷ spelled (pos t.a) ∷ spelled (pos t.b) ∷ spelled (pos t.c) ∷ []

abbrev pub heights_line : List ℤ → Line
heights_line hs = codes "heights" ∷ map spelled hs

abbrev pub end_line : Line
end_line = codes "end" ∷ []

abbrev pub file_lines : Web → List Line
file_lines w =
    first_line ∷ (map point_line w.points ++ (map triangle_line w.triangles ++ (heights_line w.heights ∷ end_line ∷ [])))

abbrev pub PointFits : Point → Type 0
PointFits p = IsNumber p.x × IsNumber p.y

abbrev pub TriangleFits : Triple → Type 0
TriangleFits t = IsCount t.a × IsCount t.b × IsCount t.c

pub record Fits (w : Web) : Type 0 where
  pub points : AllByRecursion PointFits w.points
  pub triangles : AllByRecursion TriangleFits w.triangles
  pub heights : AllByRecursion IsNumber w.heights

pub record Spells (ls : List Line) (w : Web) : Type 0 where
  pub fits : Fits w
  pub same : ls ≡ file_lines w

abbrev pub IsFile : List Line → Type 0
IsFile ls = (w : Web) × Spells ls w
