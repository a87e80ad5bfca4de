-- The edges of a web, pair of points by pair.
--
-- compact_of ts a b f, outer_of a b f == the edge of two points by the triangles that were found, if there is one
-- one o             == the list of what an option has
-- compact_pair ts a b, outer_pair ts a b == the edge of two points, if there is one
-- gathered g k n    == the lists g k, .., g (n - 1), one after the other
-- compact_row ts n a, outer_row ts n a == the edges of a with later points below n
use Rattle.std.specs.Prelude.{ℕ, ◌+◌, ◌-◌, List, [], ◌∷◌, Option, Some, None}
use Rattle.std.specs.List.{flat_map, range_with_len}
use Rattle.tv_spec_plane.specs.declared.records.Triple.{Triple}
use Rattle.tv_spec_plane.specs.declared.records.CompactEdge.{CompactEdge}
use Rattle.tv_spec_plane.specs.declared.records.OuterEdge.{OuterEdge}
use Rattle.tv_spec_plane.specs.Tiling.{triangle_at}
use Rattle.tv_spec_plane.specs.Web.{compact_by, outer_by, compact_edge, opposite}
use Rattle.tv_web.specs.declared.owners.Found.{Found}
use Rattle.tv_web.specs.declared.owners.Found.TheVariants.{Nothing, One, Two, More}
use Rattle.tv_web.specs.Found.{web_on, owners_in}

abbrev pub compact_of : List Triple → ℕ → ℕ → Found → List CompactEdge
compact_of ts a b Nothing = []
compact_of ts a b (One t) = []
compact_of ts a b (Two t u) = compact_edge a b (opposite (triangle_at ts t) a b) t (opposite (triangle_at ts u) a b) u ∷ []
compact_of ts a b More = []

abbrev pub outer_of : ℕ → ℕ → Found → List OuterEdge
outer_of a b Nothing = []
outer_of a b (One t) = record { a = a; b = b; corner = t } ∷ []
outer_of a b (Two t u) = []
outer_of a b More = []

abbrev pub one : {A : Type 0} → Option A → List A
one None = []
one (Some x) = x ∷ []

unfoldable pub compact_pair : List Triple → ℕ → ℕ → List CompactEdge
compact_pair ts a b = one (compact_by (web_on ts) a b (owners_in ts a b))

unfoldable pub outer_pair : List Triple → ℕ → ℕ → List OuterEdge
outer_pair ts a b = one (outer_by a b (owners_in ts a b))

unfoldable pub gathered : {A : Type 0} → (ℕ → List A) → ℕ → ℕ → List A
gathered g k n = flat_map g (range_with_len k (n - k))

unfoldable pub compact_row : List Triple → ℕ → ℕ → List CompactEdge
compact_row ts n a = gathered (compact_pair ts a) (a + 1) n

unfoldable pub outer_row : List Triple → ℕ → ℕ → List OuterEdge
outer_row ts n a = gathered (outer_pair ts a) (a + 1) n
