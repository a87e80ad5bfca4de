-- How far a file is read, and which rows may follow.
--
-- stage_after s r  == the stage after row r, where it may follow at stage s
-- web_with w r     == the web with the row's point, triangle or heights
-- RestPoints ls, RestTriangles ls, RestHeights ls == the lines ls end a file and begin with any point, any triangle or
--                     the heights
-- Rest s ls        == the lines ls end a file of which the lines before were read up to stage s
-- Seen s w ls      == the lines ls, read up to stage s, say w
-- IsAt s w ls      == the same, with all numbers spelled, and what follows them in a file is a rest
use Rattle.std.specs.Prelude.{◌≡◌, ◌⊎◌, ℤ, List, [], ◌∷◌, ◌++◌, map, Option, Some, None}
use Rattle.std.specs.List.{AllByRecursion}
use Rattle.tv_spec_plane.specs.declared.records.RawPoint.{RawPoint}
use Rattle.tv_spec_plane.specs.declared.records.Triple.{Triple}
use Rattle.tv_spec_plane.specs.Web.{Web}
use Rattle.tv_spec_text.specs.Lines.{Line, IsNumber}
use Rattle.tv_spec_text.specs.Files.{first_line, point_line, triangle_line, heights_line, end_line, file_lines, PointFits, TriangleFits, Fits, IsFile}
use Rattle.tv_text.specs.declared.row.Row.{Row}
use Rattle.tv_text.specs.declared.row.Row.TheVariants.{First, Point, Triangle, Heights, End}
use Rattle.tv_text.specs.declared.stage.Stage.{Stage}
use Rattle.tv_text.specs.declared.stage.Stage.TheVariants.{Opening, Points, Triangles, Closing, Done}

abbrev pub stage_after : Stage → Row → Option Stage
stage_after Opening First = Some Points
stage_after Points (Point p) = Some Points
stage_after Points (Triangle t) = Some Triangles
stage_after Points (Heights v) = Some Closing
stage_after Triangles (Triangle t) = Some Triangles
stage_after Triangles (Heights v) = Some Closing
stage_after Closing End = Some Done
stage_after s r = None

abbrev pub web_with : Web → Row → Web
web_with w First = w
web_with w (Point p) = record { points = w.points ++ p ∷ []; triangles = w.triangles; heights = w.heights }
web_with w (Triangle t) = record { points = w.points; triangles = w.triangles ++ t ∷ []; heights = w.heights }
web_with w (Heights v) = record { points = w.points; triangles = w.triangles; heights = v.items }
web_with w End = w

abbrev pub RestHeights : List Line → Type 0
RestHeights [] = ⊥
RestHeights (l ∷ more) = ((hs : List ℤ) × AllByRecursion IsNumber hs × (l ≡ heights_line hs)) × (more ≡ end_line ∷ [])

abbrev pub RestTriangles : List Line → Type 0
RestTriangles [] = ⊥
RestTriangles (l ∷ more) = (((t : Triple) × TriangleFits t × (l ≡ triangle_line t)) × RestTriangles more) ⊎ RestHeights (l ∷ more)

abbrev pub RestPoints : List Line → Type 0
RestPoints [] = ⊥
RestPoints (l ∷ more) = (((p : RawPoint) × PointFits p × (l ≡ point_line p)) × RestPoints more) ⊎ RestTriangles (l ∷ more)

abbrev pub Rest : Stage → List Line → Type 0
Rest Opening ls = IsFile ls
Rest Points ls = RestPoints ls
Rest Triangles ls = RestTriangles ls
Rest Closing ls = ls ≡ end_line ∷ []
Rest Done ls = ls ≡ []

abbrev pub Seen : Stage → Web → List Line → Type 0
Seen Opening w ls = (w.points ≡ []) × (w.triangles ≡ []) × (ls ≡ [])
Seen Points w ls = (w.triangles ≡ []) × (ls ≡ first_line ∷ map point_line w.points)
Seen Triangles w ls = ls ≡ first_line ∷ (map point_line w.points ++ map triangle_line w.triangles)
Seen Closing w ls = ls ≡ first_line ∷ (map point_line w.points ++ (map triangle_line w.triangles ++ (heights_line w.heights ∷ [])))
Seen Done w ls = ls ≡ file_lines w

pub record IsAt (s : Stage) (w : Web) (ls : List Line) : Type 0 where
  pub fits : Fits w
  pub seen : Seen s w ls
  pub rest : (more : List Line) → IsFile (ls ++ more) → Rest s more
