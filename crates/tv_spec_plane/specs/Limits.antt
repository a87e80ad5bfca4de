-- Points within the limit of coordinates.
--
-- IsCoordinate z   == within that limit in absolute value
-- HasCoordinates p == both coordinates of the point are
use Rattle.std.specs.Prelude.{◌≤◌, ℤ, unsigned_abs}
use Rattle.tv_spec_plane.specs.declared.limits.TheConstants.{GREATEST_COORDINATE}
use Rattle.tv_spec_plane.specs.Plane.{Point}

abbrev pub IsCoordinate : ℤ → Type 0
IsCoordinate z = unsigned_abs z ≤ GREATEST_COORDINATE

abbrev pub HasCoordinates : Point → Type 0
HasCoordinates p = IsCoordinate p.x × IsCoordinate p.y
