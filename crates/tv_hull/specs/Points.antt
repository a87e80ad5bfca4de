-- Lists of points that repeat a point.
--
-- IsRepeat ps i j == i < j are two places of one point
use Rattle.std.specs.Prelude.{◌≡◌, ℕ, ◌<◌, List, length}
use Rattle.tv_spec_plane.specs.Plane.{Point, at}

pub record IsRepeat (ps : List Point) (i j : ℕ) : Type 0 where
  pub ordered : i < j
  pub listed : j < length ps
  pub equal : at ps i ≡ at ps j
