-- Why listed points have no hull.
--
-- IsFault ps e == e names the first pair of equal points, or says that distinct points are flat, or is want of memory
use Rattle.std.specs.Prelude.{List, ⊤}
use Rattle.tv_spec_plane.specs.Plane.{Point}
use Rattle.tv_hull.specs.declared.fault.LatticeFault.{LatticeFault}
use Rattle.tv_hull.specs.declared.fault.LatticeFault.TheVariants.{Repeated, Flat, Memory}
use Rattle.tv_hull.specs.Pairs.{IsFirstPair}
use Rattle.tv_laws_tiling.specs.Points.{AreDistinct, IsFlat}
use Rattle.tv_hull.specs.Points.{IsRepeat}

abbrev pub IsFault : List Point → LatticeFault → Type 0
IsFault ps (Repeated i j) = IsFirstPair (IsRepeat ps) i j
IsFault ps Flat = AreDistinct ps × IsFlat ps
IsFault ps Memory = ⊤
