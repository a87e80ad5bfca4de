-- Edges against the hull: the facts for which the earliest segment is looked for, and what it means that none has them.
use Rattle.std.specs.Prelude.{◌≡◌, ℕ, ◌⊎◌, Bool, true, false, List, Option, MatchOption}
use Rattle.std.specs.List.{list_any}
use Rattle.std.proofs.Common.{refl, inl, inr}
use Rattle.tv_lattice.specs.declared.fault.FileFault.{FileFault}
use Rattle.tv_lattice.specs.declared.fault.FileFault.TheVariants.{Twice, Unmatched, Bare}
use Rattle.tv_spec_plane.specs.declared.records.Triple.{Triple}
use Rattle.tv_spec_plane.specs.Plane.{Point, Segment, IsHullSegment}
use Rattle.tv_laws_tiling.specs.Members.{Among}
use Rattle.tv_laws_tiling.specs.Hull.{IsHull}
use Rattle.tv_laws_tiling.specs.Edges.{edges, back, AreTurned, IsMatched}
use Rattle.tv_hull.specs.Pairs.{IsFirstPair}
use Rattle.tv_triangulation.specs.Mesh.{IsTriangulated}
use Rattle.tv_triangulation.specs.Turned.{turned}
use Rattle.tv_triangulation.specs.Segments.{same_segment}
use Rattle.tv_triangulation.specs.Checks.{AreListed, AreUnit, IsUnmatched, IsBare, IsListedIn, NoPair}
use Rattle.tv_triangulation.specs.Faults.{IsFullSet, IsMisfit, Fits, IsFirstFault}
use Rattle.tv_triangulation.proofs.SegmentTests.{list_any-among, among-list_any}
use Rattle.tv_triangulation.proofs.Turning.{turned-all}
use Rattle.tv_triangulation.proofs.Earliest.{IsEarliest, earliest-pair}
use Rattle.tv_triangulation.proofs.Sharing.{edges-once}

abbrev pub IsAlone : List Segment → List Segment → Segment → Type 0
IsAlone es hull s = (Among (back s) es → ⊥) × (Among s hull → ⊥)

abbrev pub IsLeft : List Segment → Segment → Type 0
IsLeft es s = Among s es → ⊥

pub unmatched-pair : (hull es : List Segment) (first : Option Segment) → IsEarliest (IsAlone es hull) es first → MatchOption first (NoPair (IsUnmatched (IsListedIn hull) es)) (λ p. IsFirstPair (IsUnmatched (IsListedIn hull) es) p.0 p.1)
unmatched-pair hull es first earliest = earliest-pair (IsAlone es hull) (IsUnmatched (IsListedIn hull) es) es (λ a b among alone. record { edge = among; lone = alone.0; inner = alone.1 }) (λ a b fault. (fault.edge, (fault.lone, fault.inner))) first earliest

pub bare-pair : (hull es : List Segment) (first : Option Segment) → IsEarliest (IsLeft es) hull first → MatchOption first (NoPair (IsBare (IsListedIn hull) es)) (λ p. IsFirstPair (IsBare (IsListedIn hull) es) p.0 p.1)
bare-pair hull es first earliest = earliest-pair (IsLeft es) (IsBare (IsListedIn hull) es) hull (λ a b among alone. record { outer = among; bare = alone }) (λ a b fault. (fault.outer, fault.bare)) first earliest

-- ---- the hull's list and the hull
first-pair-map : (P Q : ℕ → ℕ → Type 0) → ((a b : ℕ) → P a b → Q a b) → ((a b : ℕ) → Q a b → P a b) → (i j : ℕ) → IsFirstPair P i j → IsFirstPair Q i j
first-pair-map P Q to from i j pair = record {
  second = record { holds = to i j pair.second.holds; least = λ k holds. pair.second.least k (from i k holds) };
  first = λ k l holds. pair.first k l (from k l holds);
}

module _ (ps : List Point) (hull : List Segment) (is_hull : IsHull ps hull) (es : List Segment) where
  unmatched-outer : (a b : ℕ) → IsUnmatched (IsListedIn hull) es a b → IsUnmatched (IsHullSegment ps) es a b
  unmatched-outer a b fault = record { edge = fault.edge; lone = fault.lone; inner = λ h. fault.inner (is_hull.whole a b h) }

  outer-unmatched : (a b : ℕ) → IsUnmatched (IsHullSegment ps) es a b → IsUnmatched (IsListedIn hull) es a b
  outer-unmatched a b fault = record { edge = fault.edge; lone = fault.lone; inner = λ h. fault.inner (is_hull.each a b h) }

  bare-outer : (a b : ℕ) → IsBare (IsListedIn hull) es a b → IsBare (IsHullSegment ps) es a b
  bare-outer a b fault = record { outer = is_hull.each a b fault.outer; bare = fault.bare }

  outer-bare : (a b : ℕ) → IsBare (IsHullSegment ps) es a b → IsBare (IsListedIn hull) es a b
  outer-bare a b fault = record { outer = is_hull.whole a b fault.outer; bare = fault.bare }

pub misfit-outer : (ps : List Point) (hull : List Segment) → IsHull ps hull → (ts : List Triple) (f : FileFault) → IsMisfit (IsListedIn hull) ts f → IsMisfit (IsHullSegment ps) ts f
misfit-outer ps hull h ts (Twice t u) misfit = misfit
misfit-outer ps hull h ts (Unmatched a b) misfit = (misfit.0, first-pair-map (IsUnmatched (IsListedIn hull) (edges ts)) (IsUnmatched (IsHullSegment ps) (edges ts)) (unmatched-outer ps hull h (edges ts)) (outer-unmatched ps hull h (edges ts)) a b misfit.1)
misfit-outer ps hull h ts (Bare a b) misfit = (misfit.0, (λ c d fault. misfit.1 c d (outer-unmatched ps hull h (edges ts) c d fault)), first-pair-map (IsBare (IsListedIn hull) (edges ts)) (IsBare (IsHullSegment ps) (edges ts)) (bare-outer ps hull h (edges ts)) (outer-bare ps hull h (edges ts)) a b misfit.2)
misfit-outer ps hull h ts _ misfit = absurd misfit

-- a first fault
pub misfit-fault : (ps : List Point) (hull : List Segment) → IsHull ps hull → (ts : List Triple) → IsFullSet ps → AreListed ps ts → AreUnit ps ts → (f : FileFault) → IsMisfit (IsListedIn hull) (turned ps ts) f → IsFirstFault ps ts f
misfit-fault ps hull h ts spread listed unit (Twice t u) misfit = ((spread, listed, unit), misfit-outer ps hull h (turned ps ts) (Twice t u) misfit)
misfit-fault ps hull h ts spread listed unit (Unmatched a b) misfit = ((spread, listed, unit), misfit-outer ps hull h (turned ps ts) (Unmatched a b) misfit)
misfit-fault ps hull h ts spread listed unit (Bare a b) misfit = ((spread, listed, unit), misfit-outer ps hull h (turned ps ts) (Bare a b) misfit)
misfit-fault ps hull h ts spread listed unit _ misfit = absurd misfit

-- ---- no fault
among_or_not_at : (s : Segment) (xs : List Segment) (b : Bool) → list_any (same_segment s) xs ≡ b → Among s xs ⊎ (Among s xs → ⊥)
among_or_not_at s xs true e = inl (list_any-among s xs e)
among_or_not_at s xs false e = inr (λ among. let is : list_any (same_segment s) xs ≡ true = among-list_any s xs among in cc)

among_or_not : (s : Segment) (xs : List Segment) → Among s xs ⊎ (Among s xs → ⊥)
among_or_not s xs = among_or_not_at s xs (list_any (same_segment s) xs) refl

matched_at : (hull : List Segment) (ts : List Triple) → Fits (IsListedIn hull) ts → (s : Segment) → Among s (edges ts) → Among (back s) (edges ts) ⊎ Among s hull
matched_at hull ts fits s among = elim (among_or_not (back s) (edges ts)) [
  | inl there ↦ inl there
  | inr lone ↦ elim (among_or_not s hull) [
    | inl outer ↦ inr outer
    | inr inner ↦ absurd (fits.unmatched s.0 s.1 (record { edge = among; lone = lone; inner = inner }))
  ]
]

covered_at : (hull : List Segment) (ts : List Triple) → Fits (IsListedIn hull) ts → (s : Segment) → Among s hull → Among s (edges ts)
covered_at hull ts fits s outer = elim (among_or_not s (edges ts)) [
  | inl there ↦ there
  | inr bare ↦ absurd (fits.bare s.0 s.1 (record { outer = outer; bare = bare }))
]

pub fits-matched : (ps : List Point) (hull : List Segment) (ts : List Triple) → AreTurned ps ts → Fits (IsListedIn hull) ts → IsMatched hull ts
fits-matched ps hull ts turned fits = record { once = edges-once ps ts turned fits.twice; matched = matched_at hull ts fits; covered = covered_at hull ts fits }

pub fits-triangulated : (ps : List Point) (hull : List Segment) (ts : List Triple) → IsHull ps hull → IsFullSet ps → AreListed ps ts → AreUnit ps ts → Fits (IsListedIn hull) (turned ps ts) → IsTriangulated (record { points = ps; triangles = turned ps ts })
fits-triangulated ps hull ts h spread listed unit fits = record {
  hull = hull;
  distinct = spread.0;
  spread = spread.1;
  is_hull = h;
  turned = turned-all ps ts listed unit;
  matched = fits-matched ps hull (turned ps ts) (turned-all ps ts listed unit) fits;
}
