-- Points of the plane, turns and segments.
--
-- Point        == a point with whole coordinates x and y
-- origin       == the point (0, 0)
-- at ps i      == point i of the list, or the origin past its end
-- turn a b c   == the cross product of b - a and c - a: above 0 where a, b, c turn counter-clockwise
-- doubled_area a b c == the doubled area of the triangle, which is the absolute value of its turn
-- IsUnimodular a b c == the doubled area is 1
-- Segment      == a directed segment, by the numbers of its two points
-- IsBetween ps a b k == point k lies on the line of a and b, strictly between them
-- IsHullSegment ps a b == two neighbouring listed points on the boundary of the convex hull, directed so that
--                 every listed point is on the left or on the line
use Rattle.std.specs.Prelude.{◌≡◌, ◌≢◌, ℕ, ◌<◌, ℤ, pos, ◌+ℤ◌, ◌-ℤ◌, ◌*ℤ◌, ◌≤ℤ◌, ◌<ℤ◌, List, length, slice_index_or, unsigned_abs}
use Rattle.tv_spec_plane.specs.declared.records.RawPoint.{RawPoint}

abbrev pub Point : Type 0
Point = RawPoint

abbrev pub origin : Point
origin = record { x = pos 0; y = pos 0 }

abbrev pub at : List Point → ℕ → Point
at ps i = slice_index_or ps i origin

unfoldable pub turn : Point → Point → Point → ℤ
turn a b c = ((b.x -ℤ a.x) *ℤ (c.y -ℤ a.y)) -ℤ ((b.y -ℤ a.y) *ℤ (c.x -ℤ a.x))

abbrev pub doubled_area : Point → Point → Point → ℕ
doubled_area a b c = unsigned_abs (turn a b c)

abbrev pub IsUnimodular : Point → Point → Point → Type 0
IsUnimodular a b c = doubled_area a b c ≡ 1

abbrev pub Segment : Type 0
Segment = ℕ × ℕ

-- on the line, and the way from k to a and the way from k to b are opposite
pub record IsBetween (ps : List Point) (a b k : ℕ) : Type 0 where
  pub on_line : turn (at ps a) (at ps b) (at ps k) ≡ pos 0
  pub inside :
      ((((at ps a).x -ℤ (at ps k).x) *ℤ ((at ps b).x -ℤ (at ps k).x))
      +ℤ (((at ps a).y -ℤ (at ps k).y) *ℤ ((at ps b).y -ℤ (at ps k).y))) <ℤ pos 0

pub record IsHullSegment (ps : List Point) (a b : ℕ) : Type 0 where
  pub first_listed : a < length ps
  pub second_listed : b < length ps
  pub apart : at ps a ≢ at ps b
  pub left : (k : ℕ) → k < length ps → pos 0 ≤ℤ turn (at ps a) (at ps b) (at ps k)
  pub bare : (k : ℕ) → k < length ps → IsBetween ps a b k → ⊥
