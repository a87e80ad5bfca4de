-- Famous geometries as webs: one corner, the resolved conifold, local P^2 and local P^1 x P^1.
use Rattle.std.specs.Prelude.{ℕ, ℤ, pos, negsuc, [], ◌∷◌}
use Rattle.tv_spec_plane.specs.declared.records.Triple.{Triple}
use Rattle.tv_spec_plane.specs.Plane.{Point}
use Rattle.tv_spec_plane.specs.Web.{Web}

abbrev pub point : ℤ → ℤ → Point
point x y = record { x = x; y = y }

abbrev pub triple : ℕ → ℕ → ℕ → Triple
triple a b c = record { a = a; b = b; c = c }

unfoldable pub one_corner : Web
one_corner = record {
  points = point (pos 0) (pos 0) ∷ point (pos 1) (pos 0) ∷ point (pos 0) (pos 1) ∷ [];
  triangles = triple 0 1 2 ∷ [];
  heights = pos 0 ∷ pos 0 ∷ pos 0 ∷ [];
}

unfoldable pub conifold : Web
conifold = record {
  points = point (pos 0) (pos 0) ∷ point (pos 1) (pos 0) ∷ point (pos 1) (pos 1) ∷ point (pos 0) (pos 1) ∷ [];
  triangles = triple 0 1 2 ∷ triple 0 2 3 ∷ [];
  heights = pos 0 ∷ pos 1 ∷ pos 0 ∷ pos 0 ∷ [];
}

unfoldable pub local_p2 : Web
local_p2 = record {
  points = point (pos 0) (pos 0) ∷ point (pos 1) (pos 0) ∷ point (pos 0) (pos 1) ∷ point (negsuc 0) (negsuc 0) ∷ [];
  triangles = triple 0 1 2 ∷ triple 0 2 3 ∷ triple 0 3 1 ∷ [];
  heights = pos 0 ∷ pos 1 ∷ pos 0 ∷ pos 0 ∷ [];
}

unfoldable pub local_p1_p1 : Web
local_p1_p1 = record {
  points = point (pos 0) (pos 0) ∷ point (pos 1) (pos 0) ∷ point (pos 0) (pos 1) ∷ point (negsuc 0) (pos 0) ∷ point (pos 0) (negsuc 0) ∷ [];
  triangles = triple 0 1 2 ∷ triple 0 2 3 ∷ triple 0 3 4 ∷ triple 0 4 1 ∷ [];
  heights = pos 0 ∷ pos 1 ∷ pos 1 ∷ pos 0 ∷ pos 0 ∷ [];
}
