-- The triangles that have two points, as far as an edge needs them.
--
-- web_on ts        == the web of these triangles alone
-- owns ts a b t    == triangle t has both points
-- owners_in ts a b == the numbers of the triangles that have both points, rising
-- found_of ts      == whether a list has no, one or two numbers, or more
-- and_also f t     == one number more
use Rattle.std.specs.Prelude.{ℕ, List, [], ◌∷◌, Bool, ◌&&◌}
use Rattle.tv_spec_plane.specs.declared.records.Triple.{Triple}
use Rattle.tv_spec_plane.specs.Tiling.{triangle_at}
use Rattle.tv_spec_plane.specs.Web.{Web, has, owners}
use Rattle.tv_web.specs.declared.owners.Found.{Found}
use Rattle.tv_web.specs.declared.owners.Found.TheVariants.{Nothing, One, Two, More}

abbrev pub web_on : List Triple → Web
web_on ts = record { points = []; triangles = ts; heights = [] }

abbrev pub owns : List Triple → ℕ → ℕ → ℕ → Bool
owns ts a b t = has (triangle_at ts t) a && has (triangle_at ts t) b

unfoldable pub owners_in : List Triple → ℕ → ℕ → List ℕ
owners_in ts a b = owners (web_on ts) a b

abbrev pub found_of : List ℕ → Found
found_of [] = Nothing
found_of (t ∷ []) = One t
found_of (t ∷ u ∷ []) = Two t u
found_of (t ∷ u ∷ v ∷ ts) = More

abbrev pub and_also : Found → ℕ → Found
and_also Nothing t = One t
and_also (One s) t = Two s t
and_also (Two r s) t = More
and_also More t = More
