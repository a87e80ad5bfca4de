-- Slices among some keys, as they are written.
--
-- is_among keys s      == the slice is one of the keys
-- has_height d h s     == the slice has the height h at place d
-- has_extras legs t m s == the slice has m extras at t
-- behind keys full front lists == the slices with that many places without end, then front and one of the lists, that are
--                         among the keys
-- one_more keys legs t full front d n top m e == behind front those whose first column is e above the legs at t
use Rattle.std.specs.Prelude.{ℕ, suc, ◌+◌, ◌-◌, ℤ, Bool, cond, ◌&&◌, List, [], ◌∷◌, ◌++◌, map, filter, nat_eq, nat_lt, nat_le}
use Rattle.std.specs.List.{list_any}
use Rattle.tv_cells.specs.declared.legs.Legs.{Legs}
use Rattle.tv_spec_slices.specs.Slices.{Shape, at, base_at, extras_of, same_shape}
use Rattle.tv_spec_slices.specs.Paths.{columns, shape}

abbrev pub is_among : List Shape → Shape → Bool
is_among keys s = list_any (same_shape s) keys

abbrev pub has_height : ℕ → ℕ → Shape → Bool
has_height d h s = nat_eq (at s d) h

abbrev pub has_extras : Legs → ℤ → ℕ → Shape → Bool
has_extras legs t m s = nat_eq (extras_of legs t s) m

unfoldable pub behind : List Shape → ℕ → List ℕ → List (List ℕ) → List Shape
behind keys full front lists = filter (is_among keys) (map (λ hs. shape full (front ++ hs)) lists)

unfoldable pub one_more : List Shape → Legs → ℤ → ℕ → List ℕ → ℕ → ℕ → ℕ → ℕ → ℕ → List Shape
one_more keys legs t full front d n top m e =
    cond (nat_lt 0 (base_at legs t d + e) && nat_le (base_at legs t d + e) top)
    (behind keys full (front ++ (base_at legs t d + e) ∷ []) (columns legs t (suc d) n (base_at legs t d + e) (m - e))) []
