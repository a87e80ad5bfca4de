-- Paths of interlacing slices.
--
-- full_of legs t n    == how many of the first n places of slice t lie in the leg along z, from the front
-- down n              == n, n - 1, .., 0
-- columns legs t d n top m == the falling lists of heights from place d on, each at least as high as the legs there, at most
--                        n of them, none above top, with m extras; a greater height comes first
-- shape full hs       == the slice of both
-- fitting_from legs t full m == the slices at t with that many places without end and m extras beyond them
-- fitting_by legs t m == the slices at t that fit the legs and have m extras
-- fitting legs t k    == those with at most k extras
-- diagonal_at first n == the diagonal first + n
-- ways legs k first n s c == in how many ways slices that fit, with at most k extras each, can be chosen from the diagonal
--                        first up to slice s at first + n, such that neighbours interlace, the first slice is that of the
--                        legs alone, and the extras of all of them number c; s is taken as it is, and must fit
-- paths_from legs k far i == the number of paths from the diagonal -far to far, as below
-- paths legs k i      == the number of paths from the diagonal -(k + extent) to k + extent whose two outermost slices are
--                        those of the legs alone and whose slices have i extras in all, for i at most k
-- next_of legs t a budget == the slices at t + 1 that fit, have at most that many extras, and interlace with a at t
-- start_for legs k t  == the diagonal from which the ways up to t are counted
-- ways_at legs k t s c == the ways up to slice s at t
-- is_entry legs k t s c == s fits at t, some ways lead up to it with c extras, and c and the extras of its least completion
--                        are together at most k
-- entries legs k t    == the slices and costs that are entries at t, by slice, then by cost
use Rattle.std.specs.Prelude.{ℕ, zero, suc, ◌+◌, ◌-◌, ◌*◌, ℤ, pos, ◌+ℤ◌, ◌-ℤ◌, neg_ℤ, unsigned_abs, List, [], ◌∷◌, ◌++◌, map, filter, Bool, cond, ◌&&◌, nat_eq, nat_lt, nat_le}
use Rattle.std.specs.List.{flat_map}
use Rattle.std.specs.Int.{int_min}
use Rattle.tv_lemmas.specs.Sums.{sum_of}
use Rattle.tv_cells.specs.declared.legs.Legs.{Legs}
use Rattle.tv_cells.specs.Cells.{below}
use Rattle.tv_cells.specs.Extras.{extent}
use Rattle.tv_spec_slices.specs.Slices.{Shape, interlaces, base_at, is_endless, fits, extras_of, completion}

abbrev pub full_of : Legs → ℤ → ℕ → ℕ
full_of legs t zero = 0
full_of legs t (suc n) = cond (is_endless legs t n) (suc n) (full_of legs t n)

abbrev pub down : ℕ → List ℕ
down zero = 0 ∷ []
down (suc n) = suc n ∷ down n

unfoldable pub columns : Legs → ℤ → ℕ → ℕ → ℕ → ℕ → List (List ℕ)
columns legs t d zero top m = cond (nat_eq m 0) ([] ∷ []) []
columns legs t d (suc n) top m =
    flat_map (λ e. map (λ hs. (base_at legs t d + e) ∷ hs) (columns legs t (suc d) n (base_at legs t d + e) (m - e))) (filter (λ e. nat_lt 0 (base_at legs t d + e) && nat_le (base_at legs t d + e) top) (down m))
    ++ cond (nat_eq (base_at legs t d) 0 && nat_eq m 0) ([] ∷ []) []

abbrev pub shape : ℕ → List ℕ → Shape
shape full hs = record { full = full; heights = hs }

abbrev pub fitting_from : Legs → ℤ → ℕ → ℕ → List Shape
fitting_from legs t full m = map (shape full) (columns legs t full (extent legs + m) (base_at legs t full + m) m)

abbrev pub fitting_by : Legs → ℤ → ℕ → List Shape
fitting_by legs t m = fitting_from legs t (full_of legs t (extent legs)) m

abbrev pub fitting : Legs → ℤ → ℕ → List Shape
fitting legs t k = flat_map (fitting_by legs t) (below (suc k))

abbrev pub diagonal_at : ℤ → ℕ → ℤ
diagonal_at first n = first +ℤ pos n

unfoldable pub ways : Legs → ℕ → ℤ → ℕ → Shape → ℕ → ℕ
ways legs k first zero s c = cond (nat_eq c 0 && nat_eq (extras_of legs first s) 0) 1 0
ways legs k first (suc n) s c =
    cond (nat_le (extras_of legs (diagonal_at first (suc n)) s) c)
    (sum_of (λ a. ways legs k first n a (c - extras_of legs (diagonal_at first (suc n)) s)) (filter (λ a. interlaces (diagonal_at first n) a s) (fitting legs (diagonal_at first n) k))) 0

abbrev pub paths_from : Legs → ℕ → ℕ → ℕ → ℕ
paths_from legs k far i = sum_of (λ s. ways legs k (neg_ℤ (pos far)) (2 * far) s i) (fitting legs (pos far) 0)

unfoldable pub paths : Legs → ℕ → ℕ → ℕ
paths legs k i = paths_from legs k (k + extent legs) i

abbrev pub next_of : Legs → ℤ → Shape → ℕ → List Shape
next_of legs t a budget = filter (interlaces t a) (fitting legs (t +ℤ pos 1) budget)

abbrev pub start_for : Legs → ℕ → ℤ → ℤ
start_for legs k t = int_min t (neg_ℤ (pos (k + extent legs)))

abbrev pub ways_at : Legs → ℕ → ℤ → Shape → ℕ → ℕ
ways_at legs k t s c = ways legs k (start_for legs k t) (unsigned_abs (t -ℤ start_for legs k t)) s c

abbrev pub is_entry : Legs → ℕ → ℤ → Shape → ℕ → Bool
is_entry legs k t s c = fits legs t s && (nat_le (c + completion legs t s) k && nat_lt 0 (ways_at legs k t s c))

abbrev pub entries : Legs → ℕ → ℤ → List (Shape × ℕ)
entries legs k t = flat_map (λ s. map (λ c. (s, c)) (filter (is_entry legs k t s) (below (suc k)))) (fitting legs t k)
