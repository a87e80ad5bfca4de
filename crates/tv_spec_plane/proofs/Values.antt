-- Worked values of the definitions of the plane and of webs.
use Rattle.std.proofs.Common.{ap, arith}
use Rattle.std.proofs.lemmas.Int.{ints}
use Rattle.std.specs.Prelude.{◌≡◌, ◌≢◌, ℕ, zero, suc, ◌<◌, pos, negsuc, ◌≤ℤ◌, [], ◌∷◌, map, length, refl}
use Rattle.tv_spec_plane.specs.declared.records.EdgeRef.TheVariants.{Compact, Outer}
use Rattle.tv_spec_plane.specs.Plane.{Point, at, turn, doubled_area, IsBetween, IsHullSegment}
use Rattle.tv_spec_plane.specs.Web.{compact, outer, corners, edge_ref, edge_ratio, edge_class, edge_degree, normal_a, class_sign}
use Rattle.tv_spec_plane.proofs.Examples.{point, one_corner, conifold, local_p2}

-- one corner turns counter-clockwise, and clockwise with its last two points exchanged; its doubled area is 1 in both orders
corner_turn : turn (point (pos 0) (pos 0)) (point (pos 1) (pos 0)) (point (pos 0) (pos 1)) ≡ pos 1
unfolding turn
corner_turn = refl

clockwise_turn : turn (point (pos 0) (pos 0)) (point (pos 0) (pos 1)) (point (pos 1) (pos 0)) ≡ negsuc 0
unfolding turn
clockwise_turn = refl

corner_area : doubled_area (point (pos 0) (pos 0)) (point (pos 1) (pos 0)) (point (pos 0) (pos 1)) ≡ 1
unfolding turn
corner_area = refl

clockwise_area : doubled_area (point (pos 0) (pos 0)) (point (pos 0) (pos 1)) (point (pos 1) (pos 0)) ≡ 1
unfolding turn
clockwise_area = refl

-- its points 0 and 1 are neighbours on the hull, which lies on their left
bottom_apart : at one_corner.points 0 ≢ at one_corner.points 1
unfolding one_corner
bottom_apart e = let x : pos 0 ≡ pos 1 = ap (λ (p : Point). p.x) e in cc

bottom_left : (k : ℕ) → k < length one_corner.points → pos 0 ≤ℤ turn (at one_corner.points 0) (at one_corner.points 1) (at one_corner.points k)
unfolding one_corner turn
bottom_left zero h = omega (arith, ints)
bottom_left (suc zero) h = omega (arith, ints)
bottom_left (suc (suc zero)) h = omega (arith, ints)
bottom_left (suc (suc (suc k))) h = absurd (omega arith)

bottom_bare : (k : ℕ) → k < length one_corner.points → IsBetween one_corner.points 0 1 k → ⊥
unfolding one_corner turn
bottom_bare zero h b = let inside = b.inside in absurd (omega (arith, ints))
bottom_bare (suc zero) h b = let inside = b.inside in absurd (omega (arith, ints))
bottom_bare (suc (suc zero)) h b = let on_line = b.on_line in absurd (omega (arith, ints))
bottom_bare (suc (suc (suc k))) h b = absurd (omega arith)

bottom_segment : IsHullSegment one_corner.points 0 1
unfolding one_corner
bottom_segment = record { first_listed = omega arith; second_listed = omega arith; apart = bottom_apart; left = bottom_left; bare = bottom_bare }

-- and not the other way round, where point 2 is on the right
not_backwards : IsHullSegment one_corner.points 1 0 → ⊥
unfolding one_corner turn
not_backwards s = let right : pos 0 ≤ℤ negsuc 0 = s.left 2 (omega arith) in omega (arith, ints)

-- local P^2 has three compact edges, each of normal degrees -3 and 1, class -3 1 1 1 and degree 1
local_p2_edges : compact local_p2 ≡ record { a = 0; b = 1; c = 2; d = 3; corner_c = 0; corner_d = 2 } ∷ record { a = 0; b = 2; c = 1; d = 3; corner_c = 0; corner_d = 1 } ∷ record { a = 0; b = 3; c = 1; d = 2; corner_c = 2; corner_d = 1 } ∷ []
unfolding compact local_p2
local_p2_edges = refl

local_p2_open : outer local_p2 ≡ record { a = 1; b = 2; corner = 0 } ∷ record { a = 1; b = 3; corner = 2 } ∷ record { a = 2; b = 3; corner = 1 } ∷ []
unfolding outer local_p2
local_p2_open = refl

local_p2_normal : map (normal_a local_p2) (compact local_p2) ≡ negsuc 2 ∷ negsuc 2 ∷ negsuc 2 ∷ []
unfolding compact local_p2 edge_ratio turn
local_p2_normal = refl

local_p2_classes : map (edge_class local_p2) (compact local_p2) ≡ (negsuc 2 ∷ pos 1 ∷ pos 1 ∷ pos 1 ∷ []) ∷ (negsuc 2 ∷ pos 1 ∷ pos 1 ∷ pos 1 ∷ []) ∷ (negsuc 2 ∷ pos 1 ∷ pos 1 ∷ pos 1 ∷ []) ∷ []
unfolding compact local_p2 edge_ratio turn
local_p2_classes = refl

local_p2_degrees : map (edge_degree local_p2) (compact local_p2) ≡ pos 1 ∷ pos 1 ∷ pos 1 ∷ []
unfolding compact local_p2 edge_ratio turn
local_p2_degrees = refl

-- the conifold has one, of normal degrees -1 and -1 and class -1 1 -1 1, and its sign at Euler characteristic 1 is 1
conifold_edge : compact conifold ≡ record { a = 0; b = 2; c = 1; d = 3; corner_c = 0; corner_d = 1 } ∷ []
unfolding compact conifold
conifold_edge = refl

conifold_class : map (edge_class conifold) (compact conifold) ≡ (negsuc 0 ∷ pos 1 ∷ negsuc 0 ∷ pos 1 ∷ []) ∷ []
unfolding compact conifold edge_ratio turn
conifold_class = refl

conifold_sign : class_sign conifold.points (negsuc 0 ∷ pos 1 ∷ negsuc 0 ∷ pos 1 ∷ []) (pos 1) ≡ pos 1
unfolding conifold
conifold_sign = refl

-- its two corners: the compact edge lies along y at the first and along z at the second
conifold_corners : corners conifold ≡ record { x = 0; y = 1; z = 2; along_x = Outer 2; along_y = Compact 0; along_z = Outer 0 } ∷ record { x = 0; y = 2; z = 3; along_x = Outer 3; along_y = Outer 1; along_z = Compact 0 } ∷ []
unfolding conifold edge_ref compact outer
conifold_corners = refl

-- one corner has no compact edge
one_corner_edges : length (compact one_corner) ≡ 0
unfolding compact one_corner
one_corner_edges = refl
