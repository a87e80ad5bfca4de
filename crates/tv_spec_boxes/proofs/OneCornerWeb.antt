-- The edges and the corner of a web of one triangle.
use Rattle.std.proofs.Common.{◌≡◌, ℕ, ℤ, List, [], ◌∷◌, length, ◌⊎◌, inl, inr, refl, arith, IsTrue, ◌||◌, nat_eq}
use Rattle.std.proofs.lemmas.Bool.{or_cases, eqb-true}
use Rattle.tv_spec_plane.specs.declared.records.Triple.{Triple}
use Rattle.tv_spec_plane.specs.Plane.{Point}
use Rattle.tv_spec_plane.specs.Web.{Web, compact, outer, edge_ref}
use Rattle.tv_spec_boxes.specs.Assignments.{all_legs, no_legs}
use Rattle.tv_cells.specs.Extras.{empty_legs}
use Rattle.tv_spec_boxes.proofs.OneCorner.{IsOneCorner}
use Rattle.tv_spec_plane.specs.Web.{NamesAll}
use Rattle.tv_spec_plane.proofs.Examples.{triple}

-- what is needed of such a web
pub record IsBare (w : Web) : Type 0 where
  pub edges : compact w ≡ []
  pub legs : all_legs w [] (no_legs w) ≡ empty_legs ∷ []
  pub points : length w.points ≡ 3

abbrev one : Point → Point → Point → List ℤ → Triple → Web
one x y z hs t = record { points = x ∷ y ∷ z ∷ []; triangles = t ∷ []; heights = hs }

named : (a b c k : ℕ) → IsTrue (nat_eq a k || (nat_eq b k || nat_eq c k)) → (a ≡ k) ⊎ ((b ≡ k) ⊎ (c ≡ k))
named a b c k h = elim (or_cases (nat_eq a k) (nat_eq b k || nat_eq c k) h) [
  | inl p ↦ inl (eqb-true a k p)
  | inr q ↦ elim (or_cases (nat_eq b k) (nat_eq c k) q) [ inl p ↦ inr (inl (eqb-true b k p)) | inr p ↦ inr (inr (eqb-true c k p)) ]
]

along : (x y z : Point) (hs : List ℤ) (a b c a' b' c' : ℕ) → a ≡ a' → b ≡ b' → c ≡ c' → IsBare (one x y z hs (triple a' b' c')) → IsBare (one x y z hs (triple a b c))
along x y z hs a b c a' b' c' p q r h = rw (p, q, r) h

bare012 : (x y z : Point) (hs : List ℤ) → IsBare (one x y z hs (triple 0 1 2))
unfolding compact outer edge_ref
bare012 x y z hs = record { edges = refl; legs = refl; points = refl }

bare021 : (x y z : Point) (hs : List ℤ) → IsBare (one x y z hs (triple 0 2 1))
unfolding compact outer edge_ref
bare021 x y z hs = record { edges = refl; legs = refl; points = refl }

bare102 : (x y z : Point) (hs : List ℤ) → IsBare (one x y z hs (triple 1 0 2))
unfolding compact outer edge_ref
bare102 x y z hs = record { edges = refl; legs = refl; points = refl }

bare120 : (x y z : Point) (hs : List ℤ) → IsBare (one x y z hs (triple 1 2 0))
unfolding compact outer edge_ref
bare120 x y z hs = record { edges = refl; legs = refl; points = refl }

bare201 : (x y z : Point) (hs : List ℤ) → IsBare (one x y z hs (triple 2 0 1))
unfolding compact outer edge_ref
bare201 x y z hs = record { edges = refl; legs = refl; points = refl }

bare210 : (x y z : Point) (hs : List ℤ) → IsBare (one x y z hs (triple 2 1 0))
unfolding compact outer edge_ref
bare210 x y z hs = record { edges = refl; legs = refl; points = refl }

bare : (x y z : Point) (hs : List ℤ) (a b c : ℕ) → (a ≡ 0) ⊎ ((b ≡ 0) ⊎ (c ≡ 0)) → (a ≡ 1) ⊎ ((b ≡ 1) ⊎ (c ≡ 1)) → (a ≡ 2) ⊎ ((b ≡ 2) ⊎ (c ≡ 2)) → IsBare (one x y z hs (triple a b c))
bare x y z hs a b c (inl p) (inl q) (inl r) = absurd (omega arith)
bare x y z hs a b c (inl p) (inl q) (inr (inl r)) = absurd (omega arith)
bare x y z hs a b c (inl p) (inl q) (inr (inr r)) = absurd (omega arith)
bare x y z hs a b c (inl p) (inr (inl q)) (inl r) = absurd (omega arith)
bare x y z hs a b c (inl p) (inr (inl q)) (inr (inl r)) = absurd (omega arith)
bare x y z hs a b c (inl p) (inr (inl q)) (inr (inr r)) = along x y z hs a b c 0 1 2 p q r (bare012 x y z hs)
bare x y z hs a b c (inl p) (inr (inr q)) (inl r) = absurd (omega arith)
bare x y z hs a b c (inl p) (inr (inr q)) (inr (inl r)) = along x y z hs a b c 0 2 1 p r q (bare021 x y z hs)
bare x y z hs a b c (inl p) (inr (inr q)) (inr (inr r)) = absurd (omega arith)
bare x y z hs a b c (inr (inl p)) (inl q) (inl r) = absurd (omega arith)
bare x y z hs a b c (inr (inl p)) (inl q) (inr (inl r)) = absurd (omega arith)
bare x y z hs a b c (inr (inl p)) (inl q) (inr (inr r)) = along x y z hs a b c 1 0 2 q p r (bare102 x y z hs)
bare x y z hs a b c (inr (inl p)) (inr (inl q)) (inl r) = absurd (omega arith)
bare x y z hs a b c (inr (inl p)) (inr (inl q)) (inr (inl r)) = absurd (omega arith)
bare x y z hs a b c (inr (inl p)) (inr (inl q)) (inr (inr r)) = absurd (omega arith)
bare x y z hs a b c (inr (inl p)) (inr (inr q)) (inl r) = along x y z hs a b c 2 0 1 r p q (bare201 x y z hs)
bare x y z hs a b c (inr (inl p)) (inr (inr q)) (inr (inl r)) = absurd (omega arith)
bare x y z hs a b c (inr (inl p)) (inr (inr q)) (inr (inr r)) = absurd (omega arith)
bare x y z hs a b c (inr (inr p)) (inl q) (inl r) = absurd (omega arith)
bare x y z hs a b c (inr (inr p)) (inl q) (inr (inl r)) = along x y z hs a b c 1 2 0 q r p (bare120 x y z hs)
bare x y z hs a b c (inr (inr p)) (inl q) (inr (inr r)) = absurd (omega arith)
bare x y z hs a b c (inr (inr p)) (inr (inl q)) (inl r) = along x y z hs a b c 2 1 0 r q p (bare210 x y z hs)
bare x y z hs a b c (inr (inr p)) (inr (inl q)) (inr (inl r)) = absurd (omega arith)
bare x y z hs a b c (inr (inr p)) (inr (inl q)) (inr (inr r)) = absurd (omega arith)
bare x y z hs a b c (inr (inr p)) (inr (inr q)) (inl r) = absurd (omega arith)
bare x y z hs a b c (inr (inr p)) (inr (inr q)) (inr (inl r)) = absurd (omega arith)
bare x y z hs a b c (inr (inr p)) (inr (inr q)) (inr (inr r)) = absurd (omega arith)

from_points : (ps : List Point) (ts : List Triple) (hs : List ℤ) → length ps ≡ 3 → length ts ≡ 1 → ((t : Triple) → ts ≡ t ∷ [] → NamesAll t) → IsBare (record { points = ps; triangles = ts; heights = hs })
from_points (x ∷ y ∷ z ∷ []) (t ∷ []) hs p q names = bare x y z hs t.a t.b t.c (named t.a t.b t.c 0 (names t refl).first) (named t.a t.b t.c 1 (names t refl).second) (named t.a t.b t.c 2 (names t refl).third)
from_points [] ts hs p q names = cc
from_points (x ∷ []) ts hs p q names = cc
from_points (x ∷ y ∷ []) ts hs p q names = cc
from_points (x ∷ y ∷ z ∷ u ∷ ps) ts hs p q names = cc
from_points (x ∷ y ∷ z ∷ []) [] hs p q names = cc
from_points (x ∷ y ∷ z ∷ []) (t ∷ u ∷ ts) hs p q names = cc

pub one_corner_bare : (w : Web) → IsOneCorner w → IsBare w
one_corner_bare w h = from_points w.points w.triangles w.heights h.points h.triangles (λ t e. let names = h.names in rw e at names)
