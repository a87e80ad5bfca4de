-- What the laws ask of listed points.
--
-- AreSmall ps    == all points are within the limit of coordinates
-- AreDistinct ps == no point stands twice
-- IsFlat ps      == each three places have the turn 0: there are fewer than three distinct points, or all lie on a line
-- SpansPlane ps  == they are not flat
use Rattle.std.specs.Prelude.{◌≡◌, ℕ, ◌<◌, pos, List, length}
use Rattle.std.specs.List.{AllByRecursion}
use Rattle.tv_spec_plane.specs.Plane.{Point, at, turn}
use Rattle.tv_spec_plane.specs.Limits.{HasCoordinates}

abbrev pub AreSmall : List Point → Type 0
AreSmall ps = AllByRecursion HasCoordinates ps

abbrev pub AreDistinct : List Point → Type 0
AreDistinct ps = (i j : ℕ) → i < length ps → j < length ps → at ps i ≡ at ps j → i ≡ j

abbrev pub IsFlat : List Point → Type 0
IsFlat ps = (i j k : ℕ) → i < length ps → j < length ps → k < length ps → turn (at ps i) (at ps j) (at ps k) ≡ pos 0

abbrev pub SpansPlane : List Point → Type 0
SpansPlane ps = IsFlat ps → ⊥
