-- Lists of diagrams as they are written, behind the rows that are chosen already.
--
-- CanEnd front top         == what falls from top makes a diagram behind front
-- behind front lists       == each of the lists behind front
use Rattle.std.specs.Prelude.{ℕ, List, ◌++◌, map}
use Rattle.tv_partition.specs.Rows.{FallsFrom, IsDiagram}

abbrev pub CanEnd : List ℕ → ℕ → Type 0
CanEnd front top = (rows : List ℕ) → FallsFrom top rows → IsDiagram (front ++ rows)

unfoldable pub behind : List ℕ → List (List ℕ) → List (List ℕ)
behind front lists = map (λ rows. front ++ rows) lists
