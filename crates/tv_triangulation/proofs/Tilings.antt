-- What passes the checks tiles the hull of the points, and what tiles it passes them.
use Rattle.std.specs.Prelude.{◌≡◌, ◌≢◌, ℕ, zero, suc, ◌<◌, ◌≤◌, ◌⊎◌, ◌↔◌, ℤ, pos, Bool, true, false, cond, int_lt, List, [], ◌∷◌, length}
use Rattle.std.specs.List.{AllByRecursion}
use Rattle.std.proofs.Common.{subst, sym, refl, arith, inl, inr}
use Rattle.std.proofs.lemmas.Int.{ints}
use Rattle.std.proofs.lemmas.List.{length-map}
use Rattle.tv_lattice.specs.Limits.{HasCoordinates}
use Rattle.tv_lattice.specs.declared.fault.FileFault.{FileFault}
use Rattle.tv_lattice.specs.declared.fault.FileFault.TheVariants.{Repeated, Index, Flat, Area, Twice, Unmatched, Bare}
use Rattle.tv_lattice.specs.declared.fault.InputError.{InputError}
use Rattle.tv_lattice.specs.declared.fault.InputError.TheVariants.{Fault, Memory}
use Rattle.tv_spec_plane.specs.declared.records.Triple.{Triple}
use Rattle.tv_spec_plane.specs.Plane.{Point, at, turn, Segment, IsHullSegment}
use Rattle.tv_spec_plane.specs.Tiling.{Tiles, triangle_at}
use Rattle.tv_laws_tiling.specs.Hull.{IsHull}
use Rattle.tv_laws_tiling.specs.Edges.{sides, IsListed, IsMatched}
use Rattle.tv_lemmas.proofs.Members.{all-at}
use Rattle.tv_lemmas.proofs.Signs.{sign}
use Rattle.tv_laws_tiling.specs.Points.{AreDistinct}
use Rattle.tv_laws_tiling.specs.Laws.{IsExchange}
use Rattle.tv_laws_tiling.proofs.Lists.{flat_map-once_apart}
use Rattle.tv_laws_tiling.proofs.Exchanges.{exchanged_triangles_tile}
use Rattle.tv_laws_tiling.proofs.Matched.{matched_triangles_tile}
use Rattle.tv_laws_tiling_converse.proofs.Tiled.{tiling_triangles_match}
use Rattle.tv_hull.specs.Points.{IsRepeat}
use Rattle.tv_triangulation.specs.Mesh.{Mesh, IsTriangulated}
use Rattle.tv_triangulation.specs.Turned.{turn_of, turned_of, turned, IsUnit}
use Rattle.tv_triangulation.specs.Checks.{AreListed, AreUnit}
use Rattle.tv_triangulation.specs.Faults.{IsFullSet, IsMisfit, IsFirstFault, IsAnswer, IsEarlyAnswer, PassesChecks}
use Rattle.tv_triangulation.proofs.Turning.{turned-all}
use Rattle.tv_triangulation.proofs.Untwisted.{exchange_at, length-turned}

-- ---- the file's own triangles
tiles-turned : (ps : List Point) (ts : List Triple) → Tiles ps ts ↔ Tiles ps (turned ps ts)
tiles-turned ps ts = exchanged_triangles_tile ps ts (turned ps ts) (length-turned ps ts) (exchange_at ps ts)

pub triangulated-tiles : (m : Mesh) → AllByRecursion HasCoordinates m.points → IsTriangulated m → Tiles m.points m.triangles
triangulated-tiles m small mesh = matched_triangles_tile m.points m.triangles mesh.hull small mesh.spread mesh.is_hull mesh.turned mesh.matched

pub accepted-tiles : (ps : List Point) (ts : List Triple) (m : Mesh) → AllByRecursion HasCoordinates ps → PassesChecks ps ts m → Tiles ps ts
accepted-tiles ps ts m small accepted = (tiles-turned ps ts).1 (triangulated-tiles (record { points = ps; triangles = turned ps ts }) small (subst IsTriangulated accepted.whole accepted.triangulated))

-- where a place is past the end of the list
abbrev pub no_triple : Triple
no_triple = record { a = 0; b = 0; c = 0 }

-- ---- where they tile, no check of edges fails
matched-misfit : (ps : List Point) (hull : List Segment) (ts : List Triple) (f : FileFault) → IsHull ps hull → IsMatched hull ts → IsMisfit (IsHullSegment ps) ts f → ⊥
matched-misfit ps hull ts (Twice t u) h matched misfit = let twice = misfit.second.holds in flat_map-once_apart sides no_triple twice.edge ts matched.once t u twice.ordered twice.listed twice.shared.first twice.shared.second
matched-misfit ps hull ts (Unmatched a b) h matched misfit = let lone = misfit.1.second.holds in elim (matched.matched (a, b) lone.edge) [ inl back ↦ lone.lone back | inr outer ↦ lone.inner (h.each a b outer) ]
matched-misfit ps hull ts (Bare a b) h matched misfit = let bare = misfit.2.second.holds in bare.bare (matched.covered (a, b) (h.whole a b bare.outer))
matched-misfit ps hull ts _ h matched misfit = misfit

distinct-repeat : (ps : List Point) (i j : ℕ) → AreDistinct ps → IsRepeat ps i j → ⊥
distinct-repeat ps i j distinct repeat = let same : i ≡ j = distinct i j (omega (arith, repeat.ordered, repeat.listed)) repeat.listed repeat.equal in omega (arith, repeat.ordered)

module _ (ps : List Point) (ts : List Triple) (small : AllByRecursion HasCoordinates ps) (spread : IsFullSet ps) (listed : AreListed ps ts) (unit : AreUnit ps ts) (tiles : Tiles ps ts) where
  tiled-matched : (hull : List Segment) → IsHull ps hull → IsMatched hull (turned ps ts)
  tiled-matched hull h = tiling_triangles_match ps (turned ps ts) hull small spread.0 spread.1 h (turned-all ps ts listed unit) ((tiles-turned ps ts).0 tiles)

  tiled-fault : (hull : List Segment) → IsHull ps hull → (f : FileFault) → IsFirstFault ps ts f → ⊥
  tiled-fault hull h (Repeated i j) fault = distinct-repeat ps i j spread.0 fault.second.holds
  tiled-fault hull h (Index t) fault = fault.1.2 (all-at (IsListed ps) ts no_triple listed t fault.1.0)
  tiled-fault hull h Flat fault = spread.1 fault.2
  tiled-fault hull h (Area t doubled) fault = fault.2.2 (all-at (IsUnit ps) ts no_triple unit t fault.2.0)
  tiled-fault hull h f fault = matched-misfit ps hull (turned ps ts) f h (tiled-matched hull h) fault.1

  pub tiled-answer : (hull : List Segment) → IsHull ps hull → (e : InputError) → IsAnswer ps ts e → e ≡ Memory
  tiled-answer hull h (Fault f) fault = absurd (tiled-fault hull h f fault)
  tiled-answer hull h Memory fault = refl

-- ---- the checks before there is a hull
pub early-answer : (ps : List Point) (ts : List Triple) (e : InputError) → IsEarlyAnswer ps ts e → IsAnswer ps ts e
early-answer ps ts (Fault (Repeated i j)) fault = fault
early-answer ps ts (Fault (Index t)) fault = fault
early-answer ps ts (Fault Flat) fault = fault
early-answer ps ts (Fault f) fault = absurd fault
early-answer ps ts Memory fault = tt

pub early-memory : (ps : List Point) (ts : List Triple) → IsFullSet ps → AreListed ps ts → (e : InputError) → IsEarlyAnswer ps ts e → e ≡ Memory
early-memory ps ts spread listed (Fault (Repeated i j)) fault = absurd (distinct-repeat ps i j spread.0 fault.second.holds)
early-memory ps ts spread listed (Fault (Index t)) fault = absurd (fault.1.2 (all-at (IsListed ps) ts no_triple listed t fault.1.0))
early-memory ps ts spread listed (Fault Flat) fault = absurd (spread.1 fault.2)
early-memory ps ts spread listed (Fault f) fault = absurd fault
early-memory ps ts spread listed Memory fault = refl
