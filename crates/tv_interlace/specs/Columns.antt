-- Lists of heights as they are written, behind those that are chosen already.
--
-- behind t a full front lists == the slices with that many places without end, then front and one of the lists, that
--                           interlace with a at t
-- longer legs t d n top m == of the lists in columns legs t d (suc n) top m those that don't end at once
-- one_more legs t u a full front d n top m e == behind front those whose first column is e above the legs at u
-- firsts n        == n - 1, .., 1, 0
use Rattle.std.specs.Prelude.{ℕ, zero, suc, ◌+◌, ◌-◌, ℤ, cond, ◌&&◌, List, [], ◌∷◌, ◌++◌, map, filter, nat_lt, nat_le}
use Rattle.std.specs.List.{flat_map}
use Rattle.tv_cells.specs.declared.legs.Legs.{Legs}
use Rattle.tv_spec_slices.specs.Slices.{Shape, base_at, interlaces}
use Rattle.tv_spec_slices.specs.Paths.{columns, down, shape}

unfoldable pub behind : ℤ → Shape → ℕ → List ℕ → List (List ℕ) → List Shape
behind t a full front lists = filter (interlaces t a) (map (λ hs. shape full (front ++ hs)) lists)

unfoldable pub longer : Legs → ℤ → ℕ → ℕ → ℕ → ℕ → List (List ℕ)
longer legs t d n top m =
    flat_map (λ e. map (λ hs. (base_at legs t d + e) ∷ hs) (columns legs t (suc d) n (base_at legs t d + e) (m - e)))
    (filter (λ e. nat_lt 0 (base_at legs t d + e) && nat_le (base_at legs t d + e) top) (down m))

unfoldable pub one_more : Legs → ℤ → ℤ → Shape → ℕ → List ℕ → ℕ → ℕ → ℕ → ℕ → ℕ → List Shape
one_more legs t u a full front d n top m e =
    cond (nat_lt 0 (base_at legs u d + e) && nat_le (base_at legs u d + e) top)
    (behind t a full (front ++ (base_at legs u d + e) ∷ []) (columns legs u (suc d) n (base_at legs u d + e) (m - e))) []

abbrev pub firsts : ℕ → List ℕ
firsts zero = []
firsts (suc n) = n ∷ firsts n
