-- A web: listed points, triangles and heights, and what its edges, corners, classes, degrees and signs are.
--
-- Web              == points, triangles and heights
-- pairs n          == the pairs a < b below n, in order
-- has t a          == a is a point of triangle t
-- NamesAll t       == the triangle names 0, 1 and 2
-- opposite t a b   == the point of t beside a and b
-- owners w a b     == the numbers of the triangles that have both points, rising
-- compact_edge a b c t d u == the edge of a and b with the opposite points c of triangle t and d of u, in rising order
-- compact_by, outer_by == the edge, where its triangles are two, where there is one
-- compact w        == the compact edges, those of two triangles, in order of their points
-- outer w          == the open edges, those of one triangle, in order of their points
-- no_edge          == what stands for an edge past the last
-- names_compact a b, names_outer a b == the test that an edge is that of a and b
-- edge_ref w a b   == the place of the edge of a and b in one of the two lists
-- rising a b c     == the three in rising order
-- corner_on w p    == the corner of three points in rising order, with its edges
-- corner_of w t    == a triangle with its points in rising order and its edges
-- corners w        == the corners, in the order of triangles
-- edge_ratio w e   == the r of the edge rule c + d = p a + r b with p + r = 2
-- normal_a, normal_b == the normal degrees, -p at a and -r at b
-- class_entry w e k == the intersection number of the edge with point k
-- edge_class w e   == the intersection numbers of the edge with all points: 1 at c and d, the normal degrees at a and b
-- degree_of hs v   == the sum of height times entry
-- edge_degree w e  == the degree of the edge's class
-- is_even_point p  == both coordinates are even
-- even_sum ps v    == the sum of the entries at the points whose coordinates are both even
-- parity z         == 1 where z is odd, else 0
-- sign z           == 1 where z is even, else -1
-- class_sign ps v chi == the sign that every configuration of that class and Euler characteristic has
use Rattle.std.specs.Prelude.{ℕ, suc, ◌-◌, ◌%◌, ℤ, pos, negsuc, neg_ℤ, ◌+ℤ◌, ◌-ℤ◌, ◌*ℤ◌, List, [], ◌∷◌, map, filter, length, Bool, cond, ◌&&◌, ◌||◌, nat_eq, nat_lt, IsTrue, Option, Some, None, unsigned_abs}
use Rattle.std.specs.List.{flat_map, filter_map, range_with_len, position_or_len}
pub use Rattle.tv_lemmas.specs.Naturals.{below}
use Rattle.tv_spec_plane.specs.declared.records.Triple.{Triple}
use Rattle.tv_spec_plane.specs.declared.records.CompactEdge.{CompactEdge}
use Rattle.tv_spec_plane.specs.declared.records.OuterEdge.{OuterEdge}
use Rattle.tv_spec_plane.specs.declared.records.EdgeRef.{EdgeRef}
use Rattle.tv_spec_plane.specs.declared.records.EdgeRef.TheVariants.{Compact, Outer}
use Rattle.tv_spec_plane.specs.declared.records.Corner.{Corner}
use Rattle.tv_spec_plane.specs.Plane.{Point, at, turn}
use Rattle.tv_spec_plane.specs.Tiling.{triangle_at}

pub record Web : Type 0 where
  pub points : List Point
  pub triangles : List Triple
  pub heights : List ℤ

abbrev pub pairs : ℕ → List (ℕ × ℕ)
pairs n = flat_map (λ a. map (λ b. (a, b)) (range_with_len (suc a) (n - suc a))) (below n)

abbrev pub has : Triple → ℕ → Bool
has t a = nat_eq t.a a || (nat_eq t.b a || nat_eq t.c a)

-- the triangle names 0, 1 and 2
pub record NamesAll (t : Triple) : Type 0 where
  pub first : IsTrue (has t 0)
  pub second : IsTrue (has t 1)
  pub third : IsTrue (has t 2)

abbrev pub opposite : Triple → ℕ → ℕ → ℕ
opposite t a b = cond (nat_eq t.a a || nat_eq t.a b) (cond (nat_eq t.b a || nat_eq t.b b) t.c t.b) t.a

abbrev pub owners : Web → ℕ → ℕ → List ℕ
owners w a b = filter (λ t. has (triangle_at w.triangles t) a && has (triangle_at w.triangles t) b) (below (length w.triangles))

-- with the opposite points in rising order
abbrev pub compact_edge : ℕ → ℕ → ℕ → ℕ → ℕ → ℕ → CompactEdge
compact_edge a b c t d u =
    cond (nat_lt c d)
    (record { a = a; b = b; c = c; d = d; corner_c = t; corner_d = u })
    (record { a = a; b = b; c = d; d = c; corner_c = u; corner_d = t })

abbrev pub compact_by : Web → ℕ → ℕ → List ℕ → Option CompactEdge
compact_by w a b (t ∷ u ∷ []) =
    Some (compact_edge a b (opposite (triangle_at w.triangles t) a b) t (opposite (triangle_at w.triangles u) a b) u)
compact_by w a b _ = None

abbrev pub outer_by : ℕ → ℕ → List ℕ → Option OuterEdge
outer_by a b (t ∷ []) = Some (record { a = a; b = b; corner = t })
outer_by a b _ = None

unfoldable pub compact : Web → List CompactEdge
compact w = filter_map (λ p. compact_by w p.0 p.1 (owners w p.0 p.1)) (pairs (length w.points))

unfoldable pub outer : Web → List OuterEdge
outer w = filter_map (λ p. outer_by p.0 p.1 (owners w p.0 p.1)) (pairs (length w.points))

abbrev pub no_edge : CompactEdge
no_edge = record { a = 0; b = 0; c = 0; d = 0; corner_c = 0; corner_d = 0 }

abbrev pub names_compact : ℕ → ℕ → CompactEdge → Bool
names_compact a b e = nat_eq e.a a && nat_eq e.b b

abbrev pub names_outer : ℕ → ℕ → OuterEdge → Bool
names_outer a b e = nat_eq e.a a && nat_eq e.b b

unfoldable pub edge_ref : Web → ℕ → ℕ → EdgeRef
edge_ref w a b =
    let inner = position_or_len (names_compact a b) (compact w) in
    cond (nat_lt inner (length (compact w)))
    (Compact inner)
    (Outer (position_or_len (names_outer a b) (outer w)))

-- the points of a triangle in rising order
abbrev pub rising : ℕ → ℕ → ℕ → ℕ × ℕ × ℕ
rising a b c =
    cond (nat_lt a b)
    (cond (nat_lt b c) (a, b, c) (cond (nat_lt a c) (a, c, b) (c, a, b)))
    (cond (nat_lt a c) (b, a, c) (cond (nat_lt b c) (b, c, a) (c, b, a)))

abbrev pub corner_on : Web → ℕ × ℕ × ℕ → Corner
corner_on w p = record {
  x = p.0;
  y = p.1;
  z = p.2;
  along_x = edge_ref w p.1 p.2;
  along_y = edge_ref w p.0 p.2;
  along_z = edge_ref w p.0 p.1;
}

abbrev pub corner_of : Web → Triple → Corner
corner_of w t = corner_on w (rising t.a t.b t.c)

abbrev pub corners : Web → List Corner
corners w = map (corner_of w) w.triangles

-- of c + d - 2 a = r (b - a), with both sides turned against c - a, whose turn against b - a is 1 or -1
unfoldable pub edge_ratio : Web → CompactEdge → ℤ
edge_ratio w e =
    turn (at w.points e.a) (at w.points e.d) (at w.points e.c)
    *ℤ turn (at w.points e.a) (at w.points e.b) (at w.points e.c)

abbrev pub normal_a : Web → CompactEdge → ℤ
normal_a w e = edge_ratio w e -ℤ pos 2

abbrev pub normal_b : Web → CompactEdge → ℤ
normal_b w e = neg_ℤ (edge_ratio w e)

abbrev pub class_entry : Web → CompactEdge → ℕ → ℤ
class_entry w e k =
    cond (nat_eq k e.c || nat_eq k e.d) (pos 1)
    (cond (nat_eq k e.a) (normal_a w e) (cond (nat_eq k e.b) (normal_b w e) (pos 0)))

abbrev pub edge_class : Web → CompactEdge → List ℤ
edge_class w e = map (class_entry w e) (below (length w.points))

abbrev pub degree_of : List ℤ → List ℤ → ℤ
degree_of (h ∷ hs) (x ∷ v) = (h *ℤ x) +ℤ degree_of hs v
degree_of _ _ = pos 0

abbrev pub edge_degree : Web → CompactEdge → ℤ
edge_degree w e = degree_of w.heights (edge_class w e)

abbrev pub parity : ℤ → ℕ
parity z = unsigned_abs z % 2

abbrev pub sign : ℤ → ℤ
sign z = cond (nat_eq (parity z) 0) (pos 1) (negsuc 0)

abbrev pub is_even_point : Point → Bool
is_even_point p = nat_eq (parity p.x) 0 && nat_eq (parity p.y) 0

abbrev pub even_sum : List Point → List ℤ → ℤ
even_sum [] v = pos 0
even_sum (p ∷ ps) [] = pos 0
even_sum (p ∷ ps) (x ∷ v) = cond (is_even_point p) x (pos 0) +ℤ even_sum ps v

abbrev pub class_sign : List Point → List ℤ → ℤ → ℤ
class_sign ps v chi = sign (chi +ℤ even_sum ps v)
