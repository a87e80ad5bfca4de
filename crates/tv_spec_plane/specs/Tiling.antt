-- Rational points, and what it is that triangles tile the convex hull of the listed points.
--
-- Rational        == whole numbers (x, y, k) with k at least 1, for the point (x/k, y/k)
-- side a b p      == k times the turn of a, b and p: above 0 strictly left of the directed line, 0 on it
-- IsGeneric ps p  == p lies on no line through two distinct listed points
-- IsHullPair ps a b == distinct listed points such that every listed point is on their left or on their line
-- IsInHull ps p   == p is strictly left of each such pair
-- IsLeft a b c p  == p is strictly left of all three sides
-- IsInTriangle ps t p == p is strictly on the inner side of all three sides of t
-- triangle_at ts i == triangle i of the list
-- IsInOnly ps ts p i == p is in triangle i and in no other
-- Tiles ps ts     == each generic rational point in the hull is in exactly one triangle, and no other generic
--                    rational point is in any
use Rattle.std.specs.Prelude.{◌≡◌, ◌≢◌, ℕ, ◌<◌, ℤ, pos, ◌-ℤ◌, ◌*ℤ◌, ◌≤ℤ◌, ◌<ℤ◌, ◌⊎◌, List, length, slice_index_or}
use Rattle.tv_spec_plane.specs.declared.records.Triple.{Triple}
use Rattle.tv_spec_plane.specs.Plane.{Point, at, turn}

pub record Rational : Type 0 where
  pub x : ℤ
  pub y : ℤ
  pub k : ℕ

unfoldable pub side : Point → Point → Rational → ℤ
side a b p = ((b.x -ℤ a.x) *ℤ (p.y -ℤ (pos p.k *ℤ a.y))) -ℤ ((b.y -ℤ a.y) *ℤ (p.x -ℤ (pos p.k *ℤ a.x)))

pub record IsGeneric (ps : List Point) (p : Rational) : Type 0 where
  pub positive : 0 < p.k
  pub off_lines : (i j : ℕ) → i < length ps → j < length ps → at ps i ≢ at ps j → side (at ps i) (at ps j) p ≢ pos 0

pub record IsHullPair (ps : List Point) (a b : ℕ) : Type 0 where
  pub first_listed : a < length ps
  pub second_listed : b < length ps
  pub apart : at ps a ≢ at ps b
  pub left : (k : ℕ) → k < length ps → pos 0 ≤ℤ turn (at ps a) (at ps b) (at ps k)

abbrev pub IsInHull : List Point → Rational → Type 0
IsInHull ps p = (a b : ℕ) → IsHullPair ps a b → pos 0 <ℤ side (at ps a) (at ps b) p

-- strictly left of all three sides
pub record IsLeft (a b c : Point) (p : Rational) : Type 0 where
  pub ab : pos 0 <ℤ side a b p
  pub bc : pos 0 <ℤ side b c p
  pub ca : pos 0 <ℤ side c a p

-- the inner side is the left of a triangle that turns counter-clockwise, and of one that turns clockwise the left
-- once two of its points are exchanged
abbrev pub IsInTriangle : List Point → Triple → Rational → Type 0
IsInTriangle ps t p = IsLeft (at ps t.a) (at ps t.b) (at ps t.c) p ⊎ IsLeft (at ps t.a) (at ps t.c) (at ps t.b) p

abbrev pub triangle_at : List Triple → ℕ → Triple
triangle_at ts i = slice_index_or ts i (record { a = 0; b = 0; c = 0 })

-- p is in triangle i and in no other
pub record IsInOnly (ps : List Point) (ts : List Triple) (p : Rational) (i : ℕ) : Type 0 where
  pub listed : i < length ts
  pub within : IsInTriangle ps (triangle_at ts i) p
  pub only : (j : ℕ) → j < length ts → IsInTriangle ps (triangle_at ts j) p → j ≡ i

pub record Tiles (ps : List Point) (ts : List Triple) : Type 0 where
  pub covered : (p : Rational) → IsGeneric ps p → IsInHull ps p → (i : ℕ) × IsInOnly ps ts p i
  pub within : (p : Rational) → IsGeneric ps p → (i : ℕ) → i < length ts
      → IsInTriangle ps (triangle_at ts i) p → IsInHull ps p
