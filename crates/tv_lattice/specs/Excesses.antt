-- Which limit a file passes first.
--
-- HasCounts w  == as many points and triangles as a file may list, or fewer
-- IsFirstPoint ps i  == i is the least number of a point with a coordinate over its limit
-- IsFirstHeight hs k == k is the least number of a height over its limit
-- IsExcess w e == e is the first limit that w passes, in the order points, triangles, coordinates, heights
-- IsPointFault ps e  == e names the least number of a point with a coordinate over its limit, or is want of memory
-- IsLimitFault w e   == e is the first limit that w passes, or want of memory
use Rattle.std.specs.Prelude.{◌≡◌, ℕ, ◌<◌, ◌≤◌, ℤ, List, length, take, slice_index_or, pos, ⊤}
use Rattle.std.specs.List.{AllByRecursion}
use Rattle.tv_spec_plane.specs.declared.limits.TheConstants.{MOST_POINTS, MOST_TRIANGLES}
use Rattle.tv_spec_plane.specs.Plane.{Point, at}
use Rattle.tv_spec_plane.specs.Web.{Web}
use Rattle.tv_lattice.specs.declared.fault.InputError.{InputError}
use Rattle.tv_lattice.specs.declared.fault.InputError.TheVariants.{Fault, Memory}
use Rattle.tv_lattice.specs.declared.fault.FileFault.TheVariants.{TooMany}
use Rattle.tv_lattice.specs.declared.fault.Excess.{Excess}
use Rattle.tv_lattice.specs.declared.fault.Excess.TheVariants.{Points, Triangles, Coordinate, Height}
use Rattle.tv_lattice.specs.Limits.{IsHeight, HasCoordinates}

abbrev pub HasCounts : Web → Type 0
HasCounts w = (length w.points ≤ MOST_POINTS) × (length w.triangles ≤ MOST_TRIANGLES)

abbrev pub IsFirstPoint : List Point → ℕ → Type 0
IsFirstPoint ps i = (i < length ps) × AllByRecursion HasCoordinates (take i ps) × (HasCoordinates (at ps i) → ⊥)

abbrev pub IsFirstHeight : List ℤ → ℕ → Type 0
IsFirstHeight hs k = (k < length hs) × AllByRecursion IsHeight (take k hs) × (IsHeight (slice_index_or hs k (pos 0)) → ⊥)

abbrev pub IsExcess : Web → Excess → Type 0
IsExcess w (Points n) = (n ≡ length w.points) × (MOST_POINTS < n)
IsExcess w (Triangles n) = (length w.points ≤ MOST_POINTS) × (n ≡ length w.triangles) × (MOST_TRIANGLES < n)
IsExcess w (Coordinate i) = HasCounts w × IsFirstPoint w.points i
IsExcess w (Height k) = HasCounts w × AllByRecursion HasCoordinates w.points × IsFirstHeight w.heights k

abbrev pub IsPointFault : List Point → InputError → Type 0
IsPointFault ps (Fault (TooMany (Coordinate i))) = IsFirstPoint ps i
IsPointFault ps (Fault _) = ⊥
IsPointFault ps Memory = ⊤

abbrev pub IsLimitFault : Web → InputError → Type 0
IsLimitFault w (Fault (TooMany e)) = IsExcess w e
IsLimitFault w (Fault _) = ⊥
IsLimitFault w Memory = ⊤
