-- A diagram has no more rows than cells, and no row longer than its size.
use Rattle.std.proofs.Common.{ℕ, zero, suc, ◌≤◌, List, [], ◌∷◌, length, arith}
use Rattle.std.specs.Prelude.{slice_index}
use Rattle.tv_partition.specs.declared.diagram.TheConstants.{MOST_CELLS}
use Rattle.tv_partition.specs.Rows.{FallsFrom, IsDiagram, IsSmall, size}

pub falling_rows : (top : ℕ) (rows : List ℕ) → FallsFrom top rows → length rows ≤ size rows
falling_rows top [] f = omega arith
falling_rows top (row ∷ rows) f = let rest = falling_rows row rows f.2 in omega (arith, f.0)

pub falling_is_diagram : (top : ℕ) (rows : List ℕ) → FallsFrom top rows → IsDiagram rows
falling_is_diagram top [] f = tt
falling_is_diagram top (row ∷ rows) f = (f.0, f.2)

-- a diagram's rows fall from its first
pub diagram-falls : (rows : List ℕ) → IsDiagram rows → FallsFrom (slice_index rows 0) rows
diagram-falls [] d = tt
diagram-falls (row ∷ rows) d = (d.0, omega arith, d.1)

pub falls-row : (top : ℕ) (rows : List ℕ) → FallsFrom top rows → (i : ℕ) → slice_index rows i ≤ top
falls-row top [] f i = omega arith
falls-row top (row ∷ rows) f zero = f.1
falls-row top (row ∷ rows) f (suc i) = let rest = falls-row row rows f.2 i in omega (arith, f.1)

pub falls_weaker : (low top : ℕ) (rows : List ℕ) → low ≤ top → FallsFrom low rows → FallsFrom top rows
falls_weaker low top [] l f = tt
falls_weaker low top (row ∷ rows) l f = (f.0, omega (arith, f.1), f.2)

pub few_rows : (rows : List ℕ) → IsSmall rows → length rows ≤ MOST_CELLS
few_rows [] s = omega arith
few_rows (row ∷ rows) s = let rest = falling_rows row rows s.0.1 in omega (arith, s.0.0, s.1)

pub short_rows : (rows : List ℕ) → IsSmall rows → slice_index rows 0 ≤ MOST_CELLS
short_rows [] s = omega arith
short_rows (row ∷ rows) s = omega (arith, s.1)

pub short_row : (rows : List ℕ) (i : ℕ) → IsSmall rows → slice_index rows i ≤ MOST_CELLS
short_row rows i s = let first = short_rows rows s in let falls = falls-row (slice_index rows 0) rows (diagram-falls rows s.0) i in omega arith

pub ruleset bounds = (few_rows, short_rows, short_row)
