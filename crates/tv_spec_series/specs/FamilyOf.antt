-- Families of series of a web.
--
-- IsFamilyOf IsRow w d n f == the heights are those of the web, the degrees go to d and the exponents to n, the rows are the
--                            classes that assignments of degree at most d have, each once, in order, and each row is IsRow
use Rattle.std.specs.Prelude.{◌≡◌, ℕ, ℤ, pos}
use Rattle.std.specs.List.{AllByRecursion}
use Rattle.tv_spec_plane.specs.Web.{Web}
use Rattle.tv_spec_boxes.specs.Classes.{AreClasses}
use Rattle.tv_spec_series.specs.Families.{Row, Family, classes}

pub record IsFamilyOf {A : Type 0} (IsRow : Row A → Type 0) (w : Web) (d : ℕ) (n : ℤ) (f : Family A) : Type 0 where
  pub heights : f.heights ≡ w.heights
  pub top : f.top ≡ pos d
  pub upto : f.upto ≡ n
  pub classes : AreClasses w d (classes f.rows)
  pub rows : AllByRecursion IsRow f.rows
