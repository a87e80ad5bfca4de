-- The boundary of the convex hull of listed points, as segments in order.
--
-- IsLess p q        == p comes before q by x, then by y
-- IsLeast ps a, IsGreatest ps a == no listed point comes before, or after, point a
-- IsClimb ps a ss b == the segments lead from a to b, each to a point that comes later
-- IsDescent ps a ss b == the segments lead from a to b, each to a point that comes earlier
-- IsRound ps ss     == the segments lead from the least point to the greatest and back, first climbing, then descending
-- IsHull ps ss      == exactly the hull segments, each once, counter-clockwise from the least point
use Rattle.std.specs.Prelude.{◌≡◌, ℕ, ◌<◌, ◌<ℤ◌, ◌⊎◌, List, [], ◌∷◌, ◌++◌, length}
use Rattle.tv_spec_plane.specs.Plane.{Point, at, Segment, IsHullSegment}
use Rattle.tv_laws_tiling.specs.Members.{Among, Once}

abbrev pub IsLess : Point → Point → Type 0
IsLess p q = (p.x <ℤ q.x) ⊎ ((p.x ≡ q.x) × (p.y <ℤ q.y))

pub record IsLeast (ps : List Point) (a : ℕ) : Type 0 where
  pub listed : a < length ps
  pub least : (k : ℕ) → k < length ps → IsLess (at ps k) (at ps a) → ⊥

pub record IsGreatest (ps : List Point) (a : ℕ) : Type 0 where
  pub listed : a < length ps
  pub greatest : (k : ℕ) → k < length ps → IsLess (at ps a) (at ps k) → ⊥

abbrev pub IsClimb : List Point → ℕ → List Segment → ℕ → Type 0
IsClimb ps a [] b = a ≡ b
IsClimb ps a (s ∷ ss) b = (s.0 ≡ a) × IsLess (at ps s.0) (at ps s.1) × IsClimb ps s.1 ss b

abbrev pub IsDescent : List Point → ℕ → List Segment → ℕ → Type 0
IsDescent ps a [] b = a ≡ b
IsDescent ps a (s ∷ ss) b = (s.0 ≡ a) × IsLess (at ps s.1) (at ps s.0) × IsDescent ps s.1 ss b

pub record IsRound (ps : List Point) (ss : List Segment) : Type 0 where
  pub least : ℕ
  pub greatest : ℕ
  pub up : List Segment
  pub back : List Segment
  pub whole : ss ≡ up ++ back
  pub first : IsLeast ps least
  pub last : IsGreatest ps greatest
  pub climbs : IsClimb ps least up greatest
  pub descends : IsDescent ps greatest back least

pub record IsHull (ps : List Point) (ss : List Segment) : Type 0 where
  pub round : IsRound ps ss
  pub each : (a b : ℕ) → Among (a, b) ss → IsHullSegment ps a b
  pub whole : (a b : ℕ) → IsHullSegment ps a b → Among (a, b) ss
  pub once : Once ss
