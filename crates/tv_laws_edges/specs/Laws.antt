-- What is true of one compact edge, as laws.
--
-- EdgeRule    == p = 2 - r and r meet the rule of the edge, and no other whole numbers do
-- ClassParity == the sum of the class at the even points has the parity of the normal degree
-- HasParities i j a == the coordinates of the point a have the parities i and j
-- ShowAllParities a b c d == each of the four pairs of parities is that of one of the points
-- FourParities == the four points of an edge with the rule show all four exactly where its normal degree at a is odd
-- affine i j k == the heights i x + j y + k
-- FlatDegree  == such heights give an edge with the rule the degree 0
use Rattle.std.specs.Prelude.{◌≡◌, ℕ, ◌<◌, ◌⊎◌, ◌↔◌, ℤ, pos, ◌+ℤ◌, ◌-ℤ◌, ◌*ℤ◌, map}
use Rattle.tv_spec_plane.specs.declared.records.CompactEdge.{CompactEdge}
use Rattle.tv_spec_plane.specs.Plane.{Point, at}
use Rattle.tv_spec_plane.specs.Web.{Web, edge_class, normal_a, even_sum, degree_of, parity}
use Rattle.tv_laws_edges.specs.Rule.{HasSides, ratio, IsOnlyRule, HasRule}

abbrev pub EdgeRule : Type 0
EdgeRule = (a b c d : Point) → HasSides a b c d → IsOnlyRule a b c d (pos 2 -ℤ ratio a b c d) (ratio a b c d)

abbrev pub ClassParity : Type 0
ClassParity = (w : Web) (e : CompactEdge) → HasRule w e → parity (even_sum w.points (edge_class w e)) ≡ parity (normal_a w e)

abbrev pub HasParities : ℕ → ℕ → Point → Type 0
HasParities i j a = (parity a.x ≡ i) × (parity a.y ≡ j)

abbrev pub ShowAllParities : Point → Point → Point → Point → Type 0
ShowAllParities a b c d = (i j : ℕ) → i < 2 → j < 2 → HasParities i j a ⊎ (HasParities i j b ⊎ (HasParities i j c ⊎ HasParities i j d))

abbrev pub FourParities : Type 0
FourParities = (w : Web) (e : CompactEdge) → HasRule w e
    → ShowAllParities (at w.points e.a) (at w.points e.b) (at w.points e.c) (at w.points e.d) ↔ (parity (normal_a w e) ≡ 1)

abbrev pub affine : ℤ → ℤ → ℤ → Point → ℤ
affine i j k p = ((i *ℤ p.x) +ℤ (j *ℤ p.y)) +ℤ k

abbrev pub FlatDegree : Type 0
FlatDegree = (w : Web) (e : CompactEdge) (i j k : ℤ) → HasRule w e → degree_of (map (affine i j k) w.points) (edge_class w e) ≡ pos 0
