-- The limits of a file's counts and numbers.
--
-- IsHeight z        == within the limit of heights in absolute value
-- IsWithinLimits w  == as many points and triangles as a file may list, or fewer, and each coordinate and each height within its limit
use Rattle.std.specs.Prelude.{◌≤◌, ℤ, length, unsigned_abs}
use Rattle.std.specs.List.{AllByRecursion}
use Rattle.tv_spec_plane.specs.declared.limits.TheConstants.{MOST_POINTS, MOST_TRIANGLES, GREATEST_HEIGHT}
use Rattle.tv_spec_plane.specs.Web.{Web}
pub use Rattle.tv_spec_plane.specs.Limits.{IsCoordinate, HasCoordinates}

abbrev pub IsHeight : ℤ → Type 0
IsHeight z = unsigned_abs z ≤ GREATEST_HEIGHT

pub record IsWithinLimits (w : Web) : Type 0 where
  pub points : length w.points ≤ MOST_POINTS
  pub triangles : length w.triangles ≤ MOST_TRIANGLES
  pub coordinates : AllByRecursion HasCoordinates w.points
  pub sizes : AllByRecursion IsHeight w.heights
