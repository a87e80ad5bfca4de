-- The columns of a diagram are the rows of a diagram with as many cells, and have its cells with the entries exchanged.
use Rattle.std.proofs.Common.{◌≡◌, ℕ, zero, suc, ◌+◌, ◌-◌, ◌≤◌, ◌<◌, List, [], ◌∷◌, ◌++◌, nat_lt, arith, refl, sym, ◌∙◌, ap, append_assoc, append-nil, inl, inr}
use Rattle.std.specs.Prelude.{slice_index}
use Rattle.std.proofs.lemmas.Bool.{cases_lt}
use Rattle.std.proofs.lemmas.Bool.Decides.{nat_tests}
use Rattle.tv_partition.specs.Rows.{FallsFrom, IsDiagram, IsSmall, size, has, longer, column, columns, flipped}
use Rattle.tv_partition.proofs.Bounds.{few_rows, falling_is_diagram, diagram-falls, falls-row, falls_weaker}

longer-one : (j row : ℕ) → j < row → longer j row ≡ 1
longer-one j row l = grind (arith, nat_tests)

longer-none : (j row : ℕ) → row ≤ j → longer j row ≡ 0
longer-none j row l = grind (arith, nat_tests)

longer-falls : (j row : ℕ) → longer (suc j) row ≤ longer j row
longer-falls j row = grind (arith, nat_tests)

column-falls : (rows : List ℕ) (j : ℕ) → column rows (suc j) ≤ column rows j
column-falls [] j = omega arith
column-falls (row ∷ rows) j = let first = longer-falls j row in let rest = column-falls rows j in omega arith

column-some : (rows : List ℕ) (j : ℕ) → j < slice_index rows 0 → 0 < column rows j
column-some [] j l = absurd (omega arith)
column-some (row ∷ rows) j l = let one = longer-one j row l in omega arith

column-none : (top : ℕ) (rows : List ℕ) (j : ℕ) → FallsFrom top rows → top ≤ j → column rows j ≡ 0
column-none top [] j f l = refl
column-none top (row ∷ rows) j f l =
    let first = longer-none j row (omega (arith, f.1)) in
    let rest = column-none row rows j f.2 (omega (arith, f.1)) in
    omega arith

columns-fall : (rows : List ℕ) (top j n : ℕ) → column rows j ≤ top → j + n ≤ slice_index rows 0 → FallsFrom top (columns rows j n)
columns-fall rows top j zero c l = tt
columns-fall rows top j (suc n) c l = (column-some rows j (omega arith), c, columns-fall rows (column rows j) (suc j) n (column-falls rows j) (omega arith))

-- the cells of one row in n columns from j on
ones : ℕ → ℕ → ℕ → ℕ
ones row j zero = 0
ones row j (suc n) = longer j row + ones row (suc j) n

ones-count : (row j n : ℕ) → row ≤ j + n → ones row j n ≡ row - j
unfolding ones
ones-count row j zero l = omega arith
ones-count row j (suc n) l =
    let rest = ones-count row (suc j) n (omega arith) in
    elim (cases_lt j row) [
      | inl below ↦ let one = longer-one j row below in omega arith
      | inr above ↦ let none = longer-none j row above in omega arith
    ]

columns-split : (row : ℕ) (rows : List ℕ) (j n : ℕ) → size (columns (row ∷ rows) j n) ≡ ones row j n + size (columns rows j n)
unfolding ones
columns-split row rows j zero = refl
columns-split row rows j (suc n) = let rest = columns-split row rows (suc j) n in omega arith

columns-empty : (j n : ℕ) → size (columns [] j n) ≡ 0
columns-empty j zero = refl
columns-empty j (suc n) = let rest = columns-empty (suc j) n in omega arith

columns-size : (rows : List ℕ) (n : ℕ) → FallsFrom n rows → size (columns rows 0 n) ≡ size rows
columns-size [] n f = columns-empty 0 n
columns-size (row ∷ rows) n f =
    let split = columns-split row rows 0 n in
    let first = ones-count row 0 n (omega (arith, f.1)) in
    let rest = columns-size rows n (falls_weaker row n rows f.1 f.2) in
    omega arith

pub flipped-size : (rows : List ℕ) → IsDiagram rows → size (flipped rows) ≡ size rows
flipped-size rows d = columns-size rows (slice_index rows 0) (diagram-falls rows d)

pub flipped-diagram : (rows : List ℕ) → IsDiagram (flipped rows)
flipped-diagram rows = falling_is_diagram (column rows 0) (flipped rows) (columns-fall rows (column rows 0) 0 (slice_index rows 0) (omega arith) (omega arith))

pub flipped-small : (rows : List ℕ) → IsSmall rows → IsSmall (flipped rows)
flipped-small rows s =
    let same = flipped-size rows s.0 in
    (flipped-diagram rows, omega (arith, s.1))

column_at : (rows : List ℕ) (k n j : ℕ) → j < n → slice_index (columns rows k n) j ≡ column rows (k + j)
column_at rows k zero j l = absurd (omega arith)
column_at rows k (suc n) zero l = ap (column rows) (omega arith)
column_at rows k (suc n) (suc j) l = let up : suc k + j ≡ k + suc j = omega arith in column_at rows (suc k) n j (omega arith) ∙ ap (column rows) up

column_past : (rows : List ℕ) (k n j : ℕ) → n ≤ j → slice_index (columns rows k n) j ≡ 0
column_past rows k zero j l = refl
column_past rows k (suc n) zero l = absurd (omega arith)
column_past rows k (suc n) (suc j) l = column_past rows (suc k) n j (omega arith)

-- the row i is longer than j exactly where more than i rows are
counts : (top : ℕ) (rows : List ℕ) (i j : ℕ) → FallsFrom top rows → nat_lt i (column rows j) ≡ nat_lt j (slice_index rows i)
counts top [] i j f = grind (arith, nat_tests)
counts top (row ∷ rows) zero j f = elim (cases_lt j row) [
  | inl below ↦ let one = longer-one j row below in grind (arith, nat_tests)
  | inr above ↦ let none = longer-none j row above in let rest = column-none row rows j f.2 above in grind (arith, nat_tests)
]
counts top (row ∷ rows) (suc i) j f = elim (cases_lt j row) [
  | inl below ↦ let one = longer-one j row below in let rest = counts row rows i j f.2 in let step = one_more i (column rows j) in ap (λ n. nat_lt (suc i) (n + column rows j)) one ∙ (step ∙ rest)
  | inr above ↦ let none = longer-none j row above in let rest = column-none row rows j f.2 above in let short = falls-row row rows f.2 i in grind (arith, nat_tests)
]
  where
    one_more : (i n : ℕ) → nat_lt (suc i) (1 + n) ≡ nat_lt i n
    one_more i n = grind (arith, nat_tests)

pub flipped-has : (rows : List ℕ) → IsDiagram rows → (i j : ℕ) → has (flipped rows) j i ≡ has rows i j
flipped-has rows d i j = elim (cases_lt j (slice_index rows 0)) [
  | inl below ↦ ap (nat_lt i) (column_at rows 0 (slice_index rows 0) j below ∙ ap (column rows) (omega arith)) ∙ counts (slice_index rows 0) rows i j (diagram-falls rows d)
  | inr above ↦ let none = column_past rows 0 (slice_index rows 0) j above in let short = falls-row (slice_index rows 0) rows (diagram-falls rows d) i in grind (arith, nat_tests)
]

-- one column more is written
pub flip-next : (rows now before whole : List ℕ) (j n : ℕ) → j < n → now ≡ before ++ column rows j ∷ [] → before ++ columns rows j (n - j) ≡ whole → now ++ columns rows (j + 1) (n - (j + 1)) ≡ whole
flip-next rows now before whole j n l push e =
    let more : n - j ≡ suc (n - (j + 1)) = omega arith in
    let up : suc j ≡ j + 1 = omega arith in
    rw push (append_assoc before (column rows j ∷ []) (columns rows (j + 1) (n - (j + 1)))
    ∙ (ap (λ k. before ++ column rows j ∷ columns rows k (n - (j + 1))) (sym up) ∙ (ap (λ m. before ++ columns rows j m) (sym more) ∙ e)))

pub flip-done : (rows now whole : List ℕ) (j n : ℕ) → j ≡ n → now ++ columns rows j (n - j) ≡ whole → now ≡ whole
flip-done rows now whole j n last e =
    let none : n - j ≡ 0 = omega arith in
    sym (append-nil now) ∙ (ap (λ m. now ++ columns rows j m) (sym none) ∙ e)

pub ruleset flips = (few_rows, flip-done)
