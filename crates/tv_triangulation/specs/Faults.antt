-- The first check of points and triangles that fails, and what passes all of them.
--
-- IsFullSet ps         == the points are distinct and not all on one line
-- AreSound ps ts       == such points, and triangles that name listed points and are unimodular
-- IsMisfit IsOuter ts f == f is the first fault of the edges of turned triangles: a common edge, an edge without its
--                          back that is not outer, an outer segment that is no edge
-- Fits IsOuter ts      == there is no such fault
-- IsFirstFault ps ts f == f is the first check that fails, with its first number or pair, in the order of the cases
-- IsAnswer ps ts e     == e is that fault, or want of memory
-- IsEarlyAnswer ps ts e == the same, of the checks up to that of points on one line
-- PassesChecks ps ts m   == m has the points and the turned triangles, and they are triangulated
use Rattle.std.specs.Prelude.{◌≡◌, ℕ, pos, List, ⊤}
use Rattle.tv_spec_plane.specs.declared.records.Triple.{Triple}
use Rattle.tv_spec_plane.specs.Plane.{Point, IsHullSegment}
use Rattle.tv_spec_plane.specs.Tiling.{triangle_at}
use Rattle.tv_laws_tiling.specs.Edges.{edges, IsListed}
use Rattle.tv_lattice.specs.declared.fault.FileFault.{FileFault}
use Rattle.tv_lattice.specs.declared.fault.FileFault.TheVariants.{Repeated, Index, Flat, Area, Twice, Unmatched, Bare}
use Rattle.tv_lattice.specs.declared.fault.InputError.{InputError}
use Rattle.tv_lattice.specs.declared.fault.InputError.TheVariants.{Fault, Memory}
use Rattle.tv_hull.specs.Pairs.{IsFirstPair}
use Rattle.tv_laws_tiling.specs.Points.{AreDistinct, IsFlat, SpansPlane}
use Rattle.tv_hull.specs.Points.{IsRepeat}
use Rattle.tv_triangulation.specs.Mesh.{Mesh, IsTriangulated}
use Rattle.tv_triangulation.specs.Turned.{doubled_of, turned, IsUnit}
use Rattle.tv_triangulation.specs.Checks.{IsFirstNot, AreListed, AreUnit, IsTwice, IsUnmatched, IsBare, NoPair}

abbrev pub IsFullSet : List Point → Type 0
IsFullSet ps = AreDistinct ps × SpansPlane ps

abbrev pub AreSound : List Point → List Triple → Type 0
AreSound ps ts = IsFullSet ps × AreListed ps ts × AreUnit ps ts

abbrev pub IsMisfit : (ℕ → ℕ → Type 0) → List Triple → FileFault → Type 0
IsMisfit IsOuter ts (Twice t u) = IsFirstPair (IsTwice ts) t u
IsMisfit IsOuter ts (Unmatched a b) = NoPair (IsTwice ts) × IsFirstPair (IsUnmatched IsOuter (edges ts)) a b
IsMisfit IsOuter ts (Bare a b) =
    NoPair (IsTwice ts) × NoPair (IsUnmatched IsOuter (edges ts)) × IsFirstPair (IsBare IsOuter (edges ts)) a b
IsMisfit IsOuter ts _ = ⊥

pub record Fits (IsOuter : ℕ → ℕ → Type 0) (ts : List Triple) : Type 0 where
  pub twice : NoPair (IsTwice ts)
  pub unmatched : NoPair (IsUnmatched IsOuter (edges ts))
  pub bare : NoPair (IsBare IsOuter (edges ts))

abbrev pub IsFirstFault : List Point → List Triple → FileFault → Type 0
IsFirstFault ps ts (Repeated i j) = IsFirstPair (IsRepeat ps) i j
IsFirstFault ps ts (Index t) = AreDistinct ps × IsFirstNot (IsListed ps) ts t
IsFirstFault ps ts Flat = AreDistinct ps × AreListed ps ts × IsFlat ps
IsFirstFault ps ts (Area t doubled) =
    IsFullSet ps × AreListed ps ts × IsFirstNot (IsUnit ps) ts t × (doubled ≡ pos (doubled_of ps (triangle_at ts t)))
IsFirstFault ps ts f = AreSound ps ts × IsMisfit (IsHullSegment ps) (turned ps ts) f

abbrev pub IsAnswer : List Point → List Triple → InputError → Type 0
IsAnswer ps ts (Fault f) = IsFirstFault ps ts f
IsAnswer ps ts Memory = ⊤

abbrev pub IsEarlyAnswer : List Point → List Triple → InputError → Type 0
IsEarlyAnswer ps ts (Fault (Repeated i j)) = IsFirstPair (IsRepeat ps) i j
IsEarlyAnswer ps ts (Fault (Index t)) = AreDistinct ps × IsFirstNot (IsListed ps) ts t
IsEarlyAnswer ps ts (Fault Flat) = AreDistinct ps × AreListed ps ts × IsFlat ps
IsEarlyAnswer ps ts (Fault f) = ⊥
IsEarlyAnswer ps ts Memory = ⊤

pub record PassesChecks (ps : List Point) (ts : List Triple) (m : Mesh) : Type 0 where
  pub whole : m ≡ record { points = ps; triangles = turned ps ts }
  pub triangulated : IsTriangulated m
