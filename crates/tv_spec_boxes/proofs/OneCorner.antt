-- Webs of one triangle.
--
-- IsOneCorner w == three points, one unimodular triangle on them, and a height for each
-- with_sign even n == n where even holds, else -n
-- corner_coefficient n == the number of sets of n boxes at a corner without legs, with the sign (-1)^n; 0 below 0
use Rattle.std.specs.Prelude.{◌≡◌, ℕ, ◌%◌, ℤ, pos, negsuc, neg_ℤ, length, Bool, cond, nat_eq}
use Rattle.tv_spec_plane.specs.Plane.{at, IsUnimodular}
use Rattle.tv_spec_plane.specs.Tiling.{triangle_at}
use Rattle.tv_spec_plane.specs.Web.{Web, NamesAll}
use Rattle.tv_cells.specs.Extras.{empty_legs, count}

pub record IsOneCorner (w : Web) : Type 0 where
  pub points : length w.points ≡ 3
  pub triangles : length w.triangles ≡ 1
  pub names : NamesAll (triangle_at w.triangles 0)
  pub unimodular : IsUnimodular (at w.points (triangle_at w.triangles 0).a) (at w.points (triangle_at w.triangles 0).b) (at w.points (triangle_at w.triangles 0).c)
  pub heights : length w.heights ≡ 3

abbrev pub with_sign : Bool → ℕ → ℤ
with_sign even n = cond even (pos n) (neg_ℤ (pos n))

abbrev pub corner_coefficient : ℤ → ℤ
corner_coefficient (pos n) = with_sign (nat_eq (n % 2) 0) (count empty_legs n)
corner_coefficient (negsuc n) = pos 0
