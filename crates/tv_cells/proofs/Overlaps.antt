-- The overlap cost column by column.
use Rattle.std.proofs.Common.{◌≡◌, ℕ, zero, suc, ◌+◌, ◌-◌, ◌*◌, ◌≤◌, ◌<◌, min, Bool, true, false, cond, List, [], ◌∷◌, ◌++◌, nat_lt, arith, refl, sym, ◌∙◌, ap, subst, inl, inr}
use Rattle.std.specs.Prelude.{slice_index}
use Rattle.std.specs.List.{flat_map}
use Rattle.std.proofs.lemmas.Bool.{cases_lt}
use Rattle.std.proofs.lemmas.Bool.Decides.{nat_tests}
use Rattle.tv_partition.specs.Rows.{IsDiagram, has, reach}
use Rattle.tv_partition.proofs.Bounds.{falls-row, diagram-falls}
use Rattle.tv_cells.specs.declared.cell.Cell.{Cell}
use Rattle.tv_cells.specs.declared.legs.Legs.{Legs}
use Rattle.tv_cells.specs.Cells.{cell, cube}
use Rattle.tv_cells.specs.Extras.{AreDiagrams, bit, legs_at, extent}
use Rattle.tv_cells.specs.Costs.{overlaps, column_cost, overlap_cost}
use Rattle.tv_cells.specs.Grid.{heights, columns, diagonal_of}
use Rattle.tv_cells.proofs.Diagonals.{diagonals, numbers-next, numbers-none, cube-diagonals}

overlaps-append : (legs : Legs) (front back : List Cell) → overlaps legs (front ++ back) ≡ overlaps legs front + overlaps legs back
unfolding overlaps
overlaps-append legs [] back = omega arith
overlaps-append legs (c ∷ front) back = let rest = overlaps-append legs front back in omega arith

-- what the heights from k on, n of them, add where two legs reach a and b, in the third leg or not
column_part : Bool → ℕ → ℕ → ℕ → ℕ → ℕ
column_part true a b k n = (min a (k + n) - k) + (min b (k + n) - k)
column_part false a b k n = min (min a b) (k + n) - k

bit-one : (k a : ℕ) → k < a → bit (nat_lt k a) ≡ 1
bit-one k a l = grind (arith, nat_tests)

bit-none : (k a : ℕ) → a ≤ k → bit (nat_lt k a) ≡ 0
bit-none k a l = grind (arith, nat_tests)

column_step : (q : Bool) (a b k n : ℕ) → (((bit (nat_lt k a) + bit (nat_lt k b)) + bit q) - 1) + column_part q a b (k + 1) n ≡ column_part q a b k (suc n)
unfolding column_part
column_step true a b k n = elim (cases_lt k a) [
  | inl la ↦ elim (cases_lt k b) [
    | inl lb ↦ let ea = bit-one k a la in let eb = bit-one k b lb in omega arith
    | inr lb ↦ let ea = bit-one k a la in let eb = bit-none k b lb in omega arith
  ]
  | inr la ↦ elim (cases_lt k b) [
    | inl lb ↦ let ea = bit-none k a la in let eb = bit-one k b lb in omega arith
    | inr lb ↦ let ea = bit-none k a la in let eb = bit-none k b lb in omega arith
  ]
]
column_step false a b k n = elim (cases_lt k a) [
  | inl la ↦ elim (cases_lt k b) [
    | inl lb ↦ let ea = bit-one k a la in let eb = bit-one k b lb in omega arith
    | inr lb ↦ let ea = bit-one k a la in let eb = bit-none k b lb in omega arith
  ]
  | inr la ↦ elim (cases_lt k b) [
    | inl lb ↦ let ea = bit-none k a la in let eb = bit-one k b lb in omega arith
    | inr lb ↦ let ea = bit-none k a la in let eb = bit-none k b lb in omega arith
  ]
]

column_none : (q : Bool) (a b k : ℕ) → column_part q a b k 0 ≡ 0
unfolding column_part
column_none true a b k = omega arith
column_none false a b k = omega arith

column_whole : (q : Bool) (a b h : ℕ) → a ≤ h → b ≤ h → column_part q a b 0 h ≡ cond q (a + b) (min a b)
unfolding column_part
column_whole true a b h l m = omega arith
column_whole false a b h l m = omega arith

heights-overlaps : (legs : Legs) (x y k n : ℕ) → overlaps legs (heights x y k n) ≡ column_part (has legs.along_z x y) (slice_index legs.along_x y) (slice_index legs.along_y x) k n
unfolding overlaps
heights-overlaps legs x y k zero = sym (column_none (has legs.along_z x y) (slice_index legs.along_x y) (slice_index legs.along_y x) k)
heights-overlaps legs x y k (suc n) =
    ap (λ rest. (legs_at legs (cell x y k) - 1) + rest) (heights-overlaps legs x y (k + 1) n)
    ∙ column_step (has legs.along_z x y) (slice_index legs.along_x y) (slice_index legs.along_y x) k n

row-reach : (rows : List ℕ) (i : ℕ) → IsDiagram rows → slice_index rows i ≤ reach rows
row-reach rows i d = let falls = falls-row (slice_index rows 0) rows (diagram-falls rows d) i in omega arith

pub column-overlaps : (legs : Legs) (x y side : ℕ) → AreDiagrams legs → side ≡ extent legs → overlaps legs (heights x y 0 side) ≡ column_cost legs x y
column-overlaps legs x y side d e =
    let first = row-reach legs.along_x y d.along_x in
    let second = row-reach legs.along_y x d.along_y in
    heights-overlaps legs x y 0 side ∙ column_whole (has legs.along_z x y) (slice_index legs.along_x y) (slice_index legs.along_y x) side (omega arith) (omega arith)

-- one column more is added
pub columns-sum : (legs : Legs) (x y side k n total added whole : ℕ) → AreDiagrams legs → side ≡ extent legs → k < n → added ≡ column_cost legs (k + x) (k + y) → total + overlaps legs (columns x y side k (n - k)) ≡ whole → (total + added) + overlaps legs (columns x y side (k + 1) (n - (k + 1))) ≡ whole
columns-sum legs x y side k n total added whole d e l is before =
    let split = ap (λ ks. overlaps legs (flat_map (λ d. heights (d + x) (d + y) 0 side) ks)) (numbers-next k n l)
    ∙ overlaps-append legs (heights (k + x) (k + y) 0 side) (columns x y side (k + 1) (n - (k + 1))) in
    let column = column-overlaps legs (k + x) (k + y) side d e in
    omega arith

pub columns-end : (legs : Legs) (x y side k n total whole : ℕ) → k ≡ n → total + overlaps legs (columns x y side k (n - k)) ≡ whole → total ≡ whole
unfolding overlaps
columns-end legs x y side k n total whole last before =
    let P : ℕ → Type 0 = λ j. total + overlaps legs (columns x y side j (n - j)) ≡ whole in
    let at = subst P last before in
    let none = ap (λ ks. overlaps legs (flat_map (λ d. heights (d + x) (d + y) 0 side) ks)) (numbers-none n) in
    omega arith

pub diagonal-is : (legs : Legs) (side k x y : ℕ) → x ≡ (side - 1) - k → y ≡ k - (side - 1) → overlaps legs (columns x y side 0 (side - (x + y))) ≡ overlaps legs (diagonal_of side k)
diagonal-is legs side k x y ex ey = rw (ex, ey) refl

pub diagonals-sum : (legs : Legs) (side k n total added whole : ℕ) → k < n → added ≡ overlaps legs (diagonal_of side k) → total + overlaps legs (diagonals side k (n - k)) ≡ whole → (total + added) + overlaps legs (diagonals side (k + 1) (n - (k + 1))) ≡ whole
diagonals-sum legs side k n total added whole l is before =
    let split = ap (λ ks. overlaps legs (flat_map (diagonal_of side) ks)) (numbers-next k n l)
    ∙ overlaps-append legs (diagonal_of side k) (diagonals side (k + 1) (n - (k + 1))) in
    omega arith

pub diagonals-end : (legs : Legs) (side k total : ℕ) → 0 < side → side ≡ extent legs → k ≡ 2 * side - 1 → total + overlaps legs (diagonals side k ((2 * side - 1) - k)) ≡ overlaps legs (diagonals side 0 (2 * side - 1)) → total ≡ overlap_cost legs
unfolding overlaps overlap_cost
diagonals-end legs side k total p e last before =
    let P : ℕ → Type 0 = λ j. total + overlaps legs (diagonals side j ((2 * side - 1) - j)) ≡ overlaps legs (diagonals side 0 (2 * side - 1)) in
    let at = subst P last before in
    let none = ap (λ ks. overlaps legs (flat_map (diagonal_of side) ks)) (numbers-none (2 * side - 1)) in
    let whole = ap (overlaps legs) (cube-diagonals side p) in
    let same = ap (λ n. overlaps legs (cube n)) e in
    omega arith

pub no-overlap : (legs : Legs) → extent legs ≡ 0 → overlap_cost legs ≡ 0
unfolding overlap_cost overlaps cube
no-overlap legs e = rw e refl
