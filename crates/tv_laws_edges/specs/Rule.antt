-- The rule of a compact edge, which gives its two normal degrees.
--
-- HasSides a b c d    == the triangles a b c and b a d are unimodular and lie on the two sides of the edge
-- IsRule a b c d p r  == c + d = p a + r b and p + r = 2
-- ratio a b c d       == the r of the rule
-- IsOnlyRule a b c d p r == p and r meet the rule, and no other whole numbers do
-- HasRule w e         == the four points of the edge are listed and its triangles are such
-- HasEdgeRule w       == every compact edge is such
use Rattle.std.specs.Prelude.{◌≡◌, ◌<◌, ◌⊎◌, ℤ, pos, negsuc, ◌+ℤ◌, ◌*ℤ◌, length}
use Rattle.std.specs.List.{AllByRecursion}
use Rattle.tv_spec_plane.specs.declared.records.CompactEdge.{CompactEdge}
use Rattle.tv_spec_plane.specs.Plane.{Point, at, turn}
use Rattle.tv_spec_plane.specs.Web.{Web, compact}

abbrev pub HasSides : Point → Point → Point → Point → Type 0
HasSides a b c d = ((turn a b c ≡ pos 1) × (turn b a d ≡ pos 1)) ⊎ ((turn a b c ≡ negsuc 0) × (turn b a d ≡ negsuc 0))

pub record IsRule (a b c d : Point) (p r : ℤ) : Type 0 where
  pub x : c.x +ℤ d.x ≡ (p *ℤ a.x) +ℤ (r *ℤ b.x)
  pub y : c.y +ℤ d.y ≡ (p *ℤ a.y) +ℤ (r *ℤ b.y)
  pub two : p +ℤ r ≡ pos 2

abbrev pub ratio : Point → Point → Point → Point → ℤ
ratio a b c d = turn a d c *ℤ turn a b c

pub record IsOnlyRule (a b c d : Point) (p r : ℤ) : Type 0 where
  pub holds : IsRule a b c d p r
  pub only : (q s : ℤ) → IsRule a b c d q s → (q ≡ p) × (s ≡ r)

pub record HasRule (w : Web) (e : CompactEdge) : Type 0 where
  pub a : e.a < length w.points
  pub b : e.b < length w.points
  pub c : e.c < length w.points
  pub d : e.d < length w.points
  pub sides : HasSides (at w.points e.a) (at w.points e.b) (at w.points e.c) (at w.points e.d)

abbrev pub HasEdgeRule : Web → Type 0
HasEdgeRule w = AllByRecursion (HasRule w) (compact w)
