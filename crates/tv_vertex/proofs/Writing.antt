-- A cube is written diagonal by diagonal, a diagonal column by column, a column cell by cell: what is written and what
-- is left make the whole.
use Rattle.std.proofs.Common.{◌≡◌, ℕ, ◌+◌, ◌-◌, ◌*◌, ◌<◌, List, [], ◌∷◌, ◌++◌, map, refl, sym, ◌∙◌, ap, subst, append_assoc, append-nil}
use Rattle.std.specs.List.{flat_map, range_with_len}
use Rattle.tv_cells.specs.declared.cell.Cell.{Cell}
use Rattle.tv_cells.specs.Cells.{cell, cube}
use Rattle.tv_cells.proofs.Diagonals.{diagonals, numbers-next, numbers-none, cube-diagonals}
use Rattle.tv_cells.specs.Grid.{heights, columns, diagonal_of}

-- one part more is written
next_part : {X : Type 0} (f : X → List Cell) (written whole : List Cell) (x : X) (xs : List X) → written ++ flat_map f (x ∷ xs) ≡ whole → (written ++ f x) ++ flat_map f xs ≡ whole
next_part f written whole x xs e = append_assoc written (f x) (flat_map f xs) ∙ e

pub column-next : (x y n k : ℕ) (now before whole : List Cell) → k < n → now ≡ before ++ cell x y k ∷ [] → before ++ heights x y k (n - k) ≡ whole → now ++ heights x y (k + 1) (n - (k + 1)) ≡ whole
column-next x y n k now before whole l push e =
    rw push (append_assoc before (cell x y k ∷ []) (heights x y (k + 1) (n - (k + 1))) ∙ (ap (λ ks. before ++ map (λ z. cell x y z) ks) (sym (numbers-next k n l)) ∙ e))

pub column-done : (x y n : ℕ) (now whole : List Cell) → now ++ heights x y n (n - n) ≡ whole → now ≡ whole
column-done x y n now whole e = sym (append-nil now) ∙ (ap (λ ks. now ++ map (λ z. cell x y z) ks) (sym (numbers-none n)) ∙ e)

pub columns-next : (x y h n k : ℕ) (now before whole : List Cell) → k < n → now ≡ before ++ heights (k + x) (k + y) 0 h → before ++ columns x y h k (n - k) ≡ whole → now ++ columns x y h (k + 1) (n - (k + 1)) ≡ whole
columns-next x y h n k now before whole l push e =
    rw push (next_part (λ d. heights (d + x) (d + y) 0 h) before whole k (range_with_len (k + 1) (n - (k + 1)))
    (ap (λ ks. before ++ flat_map (λ d. heights (d + x) (d + y) 0 h) ks) (sym (numbers-next k n l)) ∙ e))

pub columns-done : (x y h n : ℕ) (now whole : List Cell) → now ++ columns x y h n (n - n) ≡ whole → now ≡ whole
columns-done x y h n now whole e = sym (append-nil now) ∙ (ap (λ ks. now ++ flat_map (λ d. heights (d + x) (d + y) 0 h) ks) (sym (numbers-none n)) ∙ e)

pub diagonals-next : (side n k : ℕ) (now before whole : List Cell) → k < n → now ≡ before ++ diagonal_of side k → before ++ diagonals side k (n - k) ≡ whole → now ++ diagonals side (k + 1) (n - (k + 1)) ≡ whole
diagonals-next side n k now before whole l push e =
    rw push (next_part (diagonal_of side) before whole k (range_with_len (k + 1) (n - (k + 1)))
    (ap (λ ks. before ++ flat_map (diagonal_of side) ks) (sym (numbers-next k n l)) ∙ e))

pub diagonals-done : (side n : ℕ) (now whole : List Cell) → now ++ diagonals side n (n - n) ≡ whole → now ≡ whole
diagonals-done side n now whole e = sym (append-nil now) ∙ (ap (λ ks. now ++ flat_map (diagonal_of side) ks) (sym (numbers-none n)) ∙ e)

-- the diagonals by their numbers are those of the cube

pub cube-none : (side : ℕ) → side ≡ 0 → cube side ≡ []
unfolding cube
cube-none side e = rw e refl

pub cube-done : (side k : ℕ) (now : List Cell) → 0 < side → k ≡ 2 * side - 1 → now ++ diagonals side k ((2 * side - 1) - k) ≡ diagonals side 0 (2 * side - 1) → now ≡ cube side
cube-done side k now p last e =
    let P : ℕ → Type 0 = λ j. now ++ diagonals side j ((2 * side - 1) - j) ≡ diagonals side 0 (2 * side - 1) in
    diagonals-done side (2 * side - 1) now (diagonals side 0 (2 * side - 1)) (subst P last e) ∙ cube-diagonals side p

pub ruleset writes = (column-done, columns-done)
