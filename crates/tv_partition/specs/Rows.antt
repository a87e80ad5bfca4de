-- Diagrams as their rows.
--
-- IsDiagram rows == the rows fall weakly and none is 0
-- FallsFrom top rows == so do they, below one of that length
-- size rows      == the number of cells
-- IsSmall rows   == a diagram of at most MOST_CELLS cells
-- has rows i j   == the cell (i, j) is in the diagram: j is below row i
-- reach rows     == the least number that no entry of a cell reaches
-- column rows j  == the number of rows longer than j
-- longer j row   == 1 where the row is longer than j, else 0
-- columns rows j n == the columns from j on, n of them
-- flipped rows   == the rows of the diagram with the two entries of each cell exchanged
-- down_from n    == n, n - 1, .., 1
-- diagrams_within k top n == the diagrams of n cells in at most k rows, none longer than top
-- diagrams n     == every diagram of n cells, each once; of two rows at the first place where they differ the greater
--                   comes first
use Rattle.std.specs.Prelude.{ℕ, zero, suc, ◌+◌, ◌-◌, ◌<◌, ◌≤◌, min, max, Bool, cond, List, [], ◌∷◌, map, length, slice_index, nat_lt, ⊤}
use Rattle.std.specs.List.{flat_map}
use Rattle.tv_partition.specs.declared.diagram.TheConstants.{MOST_CELLS}

-- rows below one of that length
abbrev pub FallsFrom : ℕ → List ℕ → Type 0
FallsFrom top [] = ⊤
FallsFrom top (row ∷ rows) = (0 < row) × (row ≤ top) × FallsFrom row rows

abbrev pub IsDiagram : List ℕ → Type 0
IsDiagram [] = ⊤
IsDiagram (row ∷ rows) = (0 < row) × FallsFrom row rows

abbrev pub size : List ℕ → ℕ
size [] = 0
size (row ∷ rows) = row + size rows

abbrev pub IsSmall : List ℕ → Type 0
IsSmall rows = IsDiagram rows × (size rows ≤ MOST_CELLS)

abbrev pub has : List ℕ → ℕ → ℕ → Bool
has rows i j = nat_lt j (slice_index rows i)

abbrev pub reach : List ℕ → ℕ
reach rows = max (length rows) (slice_index rows 0)

abbrev pub longer : ℕ → ℕ → ℕ
longer j row = cond (nat_lt j row) 1 0

abbrev pub column : List ℕ → ℕ → ℕ
column [] j = 0
column (row ∷ rows) j = longer j row + column rows j

-- the columns from j on, n of them
abbrev pub columns : List ℕ → ℕ → ℕ → List ℕ
columns rows j zero = []
columns rows j (suc n) = column rows j ∷ columns rows (suc j) n

abbrev pub flipped : List ℕ → List ℕ
flipped rows = columns rows 0 (slice_index rows 0)

-- n, n - 1, .., 1
abbrev pub down_from : ℕ → List ℕ
down_from zero = []
down_from (suc n) = suc n ∷ down_from n

-- the diagrams of n cells in at most k rows, none longer than top
unfoldable pub diagrams_within : ℕ → ℕ → ℕ → List (List ℕ)
diagrams_within k top zero = [] ∷ []
diagrams_within zero top (suc n) = []
diagrams_within (suc k) top (suc n) =
    flat_map (λ row. map (λ rows. row ∷ rows) (diagrams_within k row (suc n - row))) (down_from (min top (suc n)))

unfoldable pub diagrams : ℕ → List (List ℕ)
diagrams n = diagrams_within n n n
