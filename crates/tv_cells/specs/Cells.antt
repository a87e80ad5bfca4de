-- Cells of a corner, their order, cubes of them, and lists of cells chosen from a list.
--
-- cell x y z      == that cell
-- same c d        == the two cells are one
-- precedes c d    == c comes before d: the lesser y - x first, then the lesser x, then the lesser z
-- rises cells     == each cell precedes the next one
-- range_with_len k n == k, k + 1, .., n numbers
-- x_from t, y_from t == where the diagonal with x - y = t begins
-- column t d h    == the cells at place d of that diagonal, of heights 0 to h - 1
-- diagonal t n h  == the cells with x - y = t at the first n places of their diagonal, of heights 0 to h - 1
-- falling n t     == t, t - 1, .., n numbers
-- cube n          == the cells with all entries below n, each once, in their order
-- sublists_of n cells == the sublists of n members, those with an earlier cell first
-- sublists cells  == all sublists, each cell in or out
use Rattle.std.specs.Prelude.{ℕ, zero, suc, ◌+◌, ◌-◌, ℤ, pos, negsuc, ◌-ℤ◌, nat_abs, Bool, true, ◌&&◌, ◌||◌, List, [], ◌∷◌, ◌++◌, map, nat_eq, nat_lt}
use Rattle.std.specs.List.{flat_map}
use Rattle.tv_lemmas.specs.Naturals.{as_natural}
pub use Rattle.tv_lemmas.specs.Naturals.{below}
use Rattle.tv_cells.specs.declared.cell.Cell.{Cell}

abbrev pub cell : ℕ → ℕ → ℕ → Cell
cell x y z = record { x = x; y = y; z = z }

abbrev pub same : Cell → Cell → Bool
same c d = nat_eq c.x d.x && (nat_eq c.y d.y && nat_eq c.z d.z)

abbrev pub precedes : Cell → Cell → Bool
precedes c d =
    nat_lt (c.y + d.x) (d.y + c.x)
    || (nat_eq (c.y + d.x) (d.y + c.x) && (nat_lt c.x d.x || (nat_eq c.x d.x && nat_lt c.z d.z)))

abbrev pub rises : List Cell → Bool
rises [] = true
rises (c ∷ []) = true
rises (c ∷ d ∷ cells) = precedes c d && rises (d ∷ cells)

-- where the diagonal of that x - y begins
abbrev pub x_from : ℤ → ℕ
x_from t = as_natural t

abbrev pub y_from : ℤ → ℕ
y_from (pos n) = 0
y_from (negsuc n) = suc n

abbrev pub column : ℤ → ℕ → ℕ → List Cell
column t d h = map (λ z. cell (d + x_from t) (d + y_from t) z) (below h)

abbrev pub diagonal : ℤ → ℕ → ℕ → List Cell
diagonal t n h = flat_map (λ d. column t d h) (below n)

abbrev pub falling : ℕ → ℤ → List ℤ
falling zero t = []
falling (suc n) t = t ∷ falling n (t -ℤ pos 1)

unfoldable pub cube : ℕ → List Cell
cube zero = []
cube (suc n) = flat_map (λ t. diagonal t (suc n - nat_abs t) (suc n)) (falling (suc (n + n)) (pos n))

unfoldable pub sublists_of : ℕ → List Cell → List (List Cell)
sublists_of zero cells = [] ∷ []
sublists_of (suc n) [] = []
sublists_of (suc n) (c ∷ cells) = map (λ s. c ∷ s) (sublists_of n cells) ++ sublists_of (suc n) cells

unfoldable pub sublists : List Cell → List (List Cell)
sublists [] = [] ∷ []
sublists (c ∷ cells) = map (λ s. c ∷ s) (sublists cells) ++ sublists cells
