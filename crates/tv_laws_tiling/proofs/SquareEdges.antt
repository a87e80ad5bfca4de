-- The edge rule of local P^2 and of the resolved conifold, and the parity of their classes at the even points.
use Rattle.std.specs.Prelude.{◌≡◌, pos, negsuc, [], ◌∷◌, map, refl}
use Rattle.tv_spec_plane.specs.Plane.{turn}
use Rattle.tv_spec_plane.specs.Web.{compact, edge_ratio, normal_a, normal_b, edge_class, even_sum, parity}
use Rattle.tv_spec_plane.proofs.Examples.{conifold, local_p2}

-- each edge of local P^2 has r = -1, so p = 3 and the normal degrees -3 and 1
local_p2_ratios : map (edge_ratio local_p2) (compact local_p2) ≡ negsuc 0 ∷ negsuc 0 ∷ negsuc 0 ∷ []
unfolding compact local_p2 edge_ratio turn
local_p2_ratios = refl

local_p2_normals : map (normal_b local_p2) (compact local_p2) ≡ pos 1 ∷ pos 1 ∷ pos 1 ∷ []
unfolding compact local_p2 edge_ratio turn
local_p2_normals = refl

-- the one of the conifold has r = 1, so p = 1 and the normal degrees -1 and -1
conifold_ratio : map (edge_ratio conifold) (compact conifold) ≡ pos 1 ∷ []
unfolding compact conifold edge_ratio turn
conifold_ratio = refl

conifold_normal : map (normal_b conifold) (compact conifold) ≡ negsuc 0 ∷ []
unfolding compact conifold edge_ratio turn
conifold_normal = refl

-- the origin is the only even point of both: the sums there are -3 and -1, as odd as the normal degrees at a
local_p2_even : map (λ e. even_sum local_p2.points (edge_class local_p2 e)) (compact local_p2) ≡ negsuc 2 ∷ negsuc 2 ∷ negsuc 2 ∷ []
unfolding compact local_p2 edge_ratio turn
local_p2_even = refl

conifold_even : map (λ e. even_sum conifold.points (edge_class conifold e)) (compact conifold) ≡ negsuc 0 ∷ []
unfolding compact conifold edge_ratio turn
conifold_even = refl

local_p2_parity : map (λ e. parity (normal_a local_p2 e)) (compact local_p2) ≡ map (λ e. parity (even_sum local_p2.points (edge_class local_p2 e))) (compact local_p2)
unfolding compact local_p2 edge_ratio turn
local_p2_parity = refl

conifold_parity : map (λ e. parity (normal_a conifold e)) (compact conifold) ≡ map (λ e. parity (even_sum conifold.points (edge_class conifold e))) (compact conifold)
unfolding compact conifold edge_ratio turn
conifold_parity = refl
