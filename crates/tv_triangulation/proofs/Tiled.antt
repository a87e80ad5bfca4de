-- Triangles that pass the checks tile, and triangles that tile pass them.
use Rattle.std.proofs.Common.{◌≡◌, ℕ, List, [], ◌∷◌, inl, inr, arith}
use Rattle.std.specs.List.{AllByRecursion}
use Rattle.tv_spec_plane.specs.declared.records.Triple.{Triple}
use Rattle.tv_spec_plane.specs.Plane.{Point, IsHullSegment}
use Rattle.tv_spec_plane.specs.Tiling.{Tiles}
use Rattle.tv_laws_tiling.specs.Edges.{sides, edges, IsListed, AreTurned}
use Rattle.tv_lattice.specs.Limits.{HasCoordinates}
use Rattle.tv_lattice.specs.declared.fault.FileFault.{FileFault}
use Rattle.tv_lattice.specs.declared.fault.FileFault.TheVariants.{TooLong, Line, Json, TooMany, Repeated, Index, Flat, Area, Twice, Unmatched, Bare, HeightCount, Degree}
use Rattle.tv_triangulation.specs.Turned.{turned, IsUnit}
use Rattle.tv_triangulation.specs.Checks.{IsTwice, IsUnmatched, IsBare}
use Rattle.tv_triangulation.specs.Faults.{IsFirstFault}
use Rattle.tv_lemmas.proofs.Members.{all-at}
use Rattle.tv_laws_tiling.proofs.Lists.{flat_map-once_apart}
use Rattle.tv_laws_tiling.proofs.Exchanges.{exchanged_triangles_tile}
use Rattle.tv_laws_tiling_converse.proofs.Neighbours.{edges-once, edges-outer}
use Rattle.tv_laws_tiling_converse.proofs.Tiled.{outer-covered}
use Rattle.tv_triangulation.specs.Triangulated.{IsTiled}
use Rattle.tv_triangulation.proofs.Turning.{turned-all}
use Rattle.tv_triangulation.proofs.Tilings.{no_triple}
use Rattle.tv_triangulation.proofs.Untwisted.{exchange_at, length-turned}

module _ (ps : List Point) (ts : List Triple) (coordinates : AllByRecursion HasCoordinates ps) (t : IsTiled ps ts) where
  turned_all : AreTurned ps (turned ps ts)
  turned_all = turned-all ps ts t.listed t.unit

  tiles_turned : Tiles ps (turned ps ts)
  tiles_turned = (exchanged_triangles_tile ps ts (turned ps ts) (length-turned ps ts) (exchange_at ps ts)).0 t.tiles

  no_twice : (i j : ℕ) → IsTwice (turned ps ts) i j → ⊥
  no_twice i j h = flat_map-once_apart sides no_triple h.edge (turned ps ts) (edges-once ps (turned ps ts) coordinates t.distinct turned_all tiles_turned) i j h.ordered h.listed h.shared.first h.shared.second

  no_unmatched : (a b : ℕ) → IsUnmatched (IsHullSegment ps) (edges (turned ps ts)) a b → ⊥
  no_unmatched a b h = elim (edges-outer ps (turned ps ts) coordinates t.distinct turned_all tiles_turned (a, b) h.edge) [ inl p ↦ h.lone p | inr p ↦ h.inner p ]

  no_bare : (a b : ℕ) → IsBare (IsHullSegment ps) (edges (turned ps ts)) a b → ⊥
  no_bare a b h = h.bare (outer-covered ps (turned ps ts) coordinates t.distinct t.spread turned_all tiles_turned (a, b) h.outer)

  pub tiled-no_fault : (f : FileFault) → IsFirstFault ps ts f → ⊥
  tiled-no_fault (Repeated i j) h = let r = h.second.holds in let ordered = r.ordered in let same : i ≡ j = t.distinct i j (omega arith) r.listed r.equal in absurd (omega arith)
  tiled-no_fault (Index k) h = h.1.2 (all-at (IsListed ps) ts no_triple t.listed k h.1.0)
  tiled-no_fault Flat h = t.spread h.2
  tiled-no_fault (Area k d) h = h.2.2 (all-at (IsUnit ps) ts no_triple t.unit k h.2.0)
  tiled-no_fault (Twice i j) h = no_twice i j h.1.second.holds
  tiled-no_fault (Unmatched a b) h = no_unmatched a b h.1.1.second.holds
  tiled-no_fault (Bare a b) h = no_bare a b h.1.2.second.holds
  tiled-no_fault TooLong h = h.1
  tiled-no_fault (Line n) h = h.1
  tiled-no_fault Json h = h.1
  tiled-no_fault (TooMany e) h = h.1
  tiled-no_fault (HeightCount k) h = h.1
  tiled-no_fault (Degree a b d) h = h.1
