-- The two ways along the boundary of a hull: up from the least point to the greatest, and down again.
--
-- IsAhead heading p q   == q comes after p on the way: by x, then y, and the other way where the way leads down
-- IsKept heading p b c  == seen from p, c is no better than b: it is on the left, or on the line and b is not ahead of it
-- IsEnd ps heading p    == no listed point is ahead of p
-- IsBest ps heading p n b == b is ahead of p, and each point ahead of p among the first n is no better
-- IsBestOf ps heading p n best == the best of the first n, if any of them is ahead
-- IsStart ps heading p  == p is a listed point that is ahead of none
-- IsWay ps heading a ss b == the segments lead from a to b, each to a point ahead
-- IsRun ps heading a ss b == such a way of hull segments, to a listed point with none ahead
use Rattle.std.specs.Prelude.{◌≡◌, ℕ, ◌<◌, pos, ◌<ℤ◌, ◌⊎◌, List, [], ◌∷◌, length, Option, Some, None}
use Rattle.tv_hull.specs.declared.order.Heading.{Heading}
use Rattle.tv_hull.specs.declared.order.Heading.TheVariants.{Up, Down}
use Rattle.tv_spec_plane.specs.Plane.{Point, at, turn, Segment, IsHullSegment}
use Rattle.tv_laws_tiling.specs.Members.{Among}
use Rattle.tv_laws_tiling.specs.Hull.{IsLess}

abbrev pub IsAhead : Heading → Point → Point → Type 0
IsAhead Up p q = IsLess p q
IsAhead Down p q = IsLess q p

abbrev pub IsKept : Heading → Point → Point → Point → Type 0
IsKept heading p b c = (pos 0 <ℤ turn p b c) ⊎ ((turn p b c ≡ pos 0) × (IsAhead heading c b → ⊥))

abbrev pub IsEnd : List Point → Heading → ℕ → Type 0
IsEnd ps heading p = (k : ℕ) → k < length ps → IsAhead heading (at ps p) (at ps k) → ⊥

pub record IsBest (ps : List Point) (heading : Heading) (p n b : ℕ) : Type 0 where
  pub below : b < n
  pub ahead : IsAhead heading (at ps p) (at ps b)
  pub kept : (k : ℕ) → k < n → IsAhead heading (at ps p) (at ps k) → IsKept heading (at ps p) (at ps b) (at ps k)

abbrev pub IsBestOf : List Point → Heading → ℕ → ℕ → Option ℕ → Type 0
IsBestOf ps heading p n None = (k : ℕ) → k < n → IsAhead heading (at ps p) (at ps k) → ⊥
IsBestOf ps heading p n (Some b) = IsBest ps heading p n b

pub record IsStart (ps : List Point) (heading : Heading) (p : ℕ) : Type 0 where
  pub listed : p < length ps
  pub first : (k : ℕ) → k < length ps → IsAhead heading (at ps k) (at ps p) → ⊥

abbrev pub IsWay : List Point → Heading → ℕ → List Segment → ℕ → Type 0
IsWay ps heading a [] b = a ≡ b
IsWay ps heading a (s ∷ ss) b = (s.0 ≡ a) × IsAhead heading (at ps s.0) (at ps s.1) × IsWay ps heading s.1 ss b

pub record IsRun (ps : List Point) (heading : Heading) (a : ℕ) (ss : List Segment) (b : ℕ) : Type 0 where
  pub way : IsWay ps heading a ss b
  pub each : (p q : ℕ) → Among (p, q) ss → IsHullSegment ps p q
  pub listed : b < length ps
  pub last : IsEnd ps heading b
