-- What one line of a file says.
--
-- texts ws   == the words of a line, as lists of bytes
-- IsRow r l  == the line l spells the row r
-- IsNoRow l  == the line l spells no row
use Rattle.std.specs.Prelude.{◌≡◌, ◌≢◌, ℕ, ℤ, List, map}
use Rattle.std.specs.List.{AllByRecursion}
use Rattle.tv_spec_plane.specs.declared.records.RawPoint.{RawPoint}
use Rattle.tv_spec_plane.specs.declared.records.Triple.{Triple}
use Rattle.tv_spec_text.specs.Lines.{Line, IsNumber}
use Rattle.tv_spec_text.specs.Files.{first_line, point_line, triangle_line, heights_line, end_line, PointFits, TriangleFits}
use Rattle.tv_text.specs.declared.row.Row.{Row}
use Rattle.tv_text.specs.declared.row.Row.TheVariants.{First, Point, Triangle, Heights, End}
use denote.Ref.{Bor}

abbrev pub texts : List (Bor (List ℕ)) → Line
texts ws = map (λ w. w.now) ws

abbrev pub IsRow : Row → Line → Type 0
IsRow First l = l ≡ first_line
IsRow (Point p) l = PointFits p × (l ≡ point_line p)
IsRow (Triangle t) l = TriangleFits t × (l ≡ triangle_line t)
IsRow (Heights v) l = AllByRecursion IsNumber v.items × (l ≡ heights_line v.items)
IsRow End l = l ≡ end_line

pub record IsNoRow (l : Line) : Type 0 where
  pub first : l ≢ first_line
  pub point : (p : RawPoint) → PointFits p → l ≢ point_line p
  pub triangle : (t : Triple) → TriangleFits t → l ≢ triangle_line t
  pub heights : (hs : List ℤ) → AllByRecursion IsNumber hs → l ≢ heights_line hs
  pub last : l ≢ end_line
