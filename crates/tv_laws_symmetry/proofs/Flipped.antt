-- Flipped diagrams: they reach as far, and flipped again they are the diagrams.
use Rattle.std.specs.Prelude.{◌≡◌, ℕ, zero, suc, ◌<◌, List, [], ◌∷◌, length, slice_index}
use Rattle.std.proofs.Common.{refl, ap, ◌∙◌, arith}
use Rattle.std.proofs.lemmas.Bool.Decides.{nat_tests}
use Rattle.tv_partition.specs.Rows.{FallsFrom, IsDiagram, reach, longer, column, columns, flipped}
use Rattle.tv_partition.proofs.Bounds.{diagram-falls}
use Rattle.tv_partition.proofs.Flip.{flipped-diagram, flipped-has}
use Rattle.tv_partition.proofs.Shapes.{diagram-once}

length-columns : (rows : List ℕ) (j n : ℕ) → length (columns rows j n) ≡ n
length-columns rows j zero = refl
length-columns rows j (suc n) = ap suc (length-columns rows (suc j) n)

longer-first : (row : ℕ) → 0 < row → longer 0 row ≡ 1
longer-first row l = grind (arith, nat_tests)

-- each row has a first cell
column-first : (top : ℕ) (rows : List ℕ) → FallsFrom top rows → column rows 0 ≡ length rows
column-first top [] f = refl
column-first top (row ∷ rows) f = let here = longer-first row f.0 in let rest = column-first row rows f.2 in omega arith

first-column : (rows : List ℕ) (n : ℕ) → 0 < n → slice_index (columns rows 0 n) 0 ≡ column rows 0
first-column rows zero l = absurd (omega arith)
first-column rows (suc n) l = refl

first-row : (rows : List ℕ) → IsDiagram rows → slice_index (flipped rows) 0 ≡ length rows
first-row [] d = refl
first-row (row ∷ rows) d = first-column (row ∷ rows) row d.0 ∙ column-first row (row ∷ rows) (diagram-falls (row ∷ rows) d)

pub reach-flipped : (rows : List ℕ) → IsDiagram rows → reach (flipped rows) ≡ reach rows
reach-flipped rows d =
    let long = length-columns rows 0 (slice_index rows 0) in
    let wide = first-row rows d in
    omega arith

pub flipped-twice : (rows : List ℕ) → IsDiagram rows → flipped (flipped rows) ≡ rows
flipped-twice rows d =
    diagram-once (flipped (flipped rows)) rows (flipped-diagram (flipped rows)) d
    (λ i j. flipped-has (flipped rows) (flipped-diagram rows) j i ∙ flipped-has rows d i j)
