-- How far from 0 the costs of one edge and of one corner are.
use Rattle.std.proofs.Common.{◌≡◌, ℕ, zero, suc, ◌+◌, ◌-◌, ◌*◌, ◌≤◌, List, [], ◌∷◌, length, refl, ap, ◌∙◌, arith, le_trans, le_of_eq, mul_comm, Bool, true, false, w64}
use mir.Val.{to_z, of_z}
use Rattle.std.specs.Prelude.{ℤ, pos, negsuc, ◌+ℤ◌, ◌-ℤ◌, ◌*ℤ◌, ◌≤ℤ◌, unsigned_abs, nat_abs}
use Rattle.std.specs.List.{range_with_len}
use Rattle.std.proofs.lemmas.Int.{ints, unsigned_abs-mul}
use Rattle.std.proofs.lemmas.List.{length-map}
use Rattle.std.proofs.lemmas.Nat.{mul-le}
use Rattle.tv_lemmas.proofs.Lists.{length-flat_map-le}
use Rattle.tv_partition.specs.Rows.{IsSmall, size, has}
use Rattle.tv_partition.proofs.Bounds.{few_rows, short_rows}
use Rattle.tv_cells.specs.declared.cell.Cell.{Cell}
use Rattle.tv_cells.specs.declared.legs.Legs.{Legs}
use Rattle.tv_cells.specs.Cells.{cell, below, x_from, y_from, column, diagonal, falling, cube}
use Rattle.tv_cells.specs.Extras.{bit, legs_at, extent}
use Rattle.tv_cells.specs.Costs.{row_cost, rows_cost, edge_cost, overlaps, overlap_cost}
use Rattle.tv_cells.proofs.Bounded.{product_low, product_high, cell_low, cell_high}

-- one row
row_cost-small : (a b : ℤ) (i n : ℕ) → negsuc 999 ≤ℤ a → a ≤ℤ pos 1000 → negsuc 999 ≤ℤ b → b ≤ℤ pos 1000 → i ≤ 24 → n ≤ 24 → unsigned_abs (row_cost a b i n) ≤ n * 48001
unfolding row_cost
row_cost-small a b i zero al ah bl bh hi hn = omega arith
row_cost-small a b i (suc n) al ah bl bh hi hn =
    let before = row_cost-small a b i n al ah bl bh hi (omega arith) in
    more (row_cost a b i n) ((pos 1 -ℤ (a *ℤ pos i)) -ℤ (b *ℤ pos n)) before
    (cell_low (a *ℤ pos i) (b *ℤ pos n) (product_high a i al ah hi) (product_high b n bl bh (omega arith)))
    (cell_high (a *ℤ pos i) (b *ℤ pos n) (product_low a i al ah hi) (product_low b n bl bh (omega arith)))
  where
    more : (x y : ℤ) → unsigned_abs x ≤ n * 48001 → negsuc 48000 ≤ℤ y → y ≤ℤ pos 48001 → unsigned_abs (x +ℤ y) ≤ suc n * 48001
    more x y hx l h = omega (arith, ints)

-- the rows from row i on
rows_cost-small : (a b : ℤ) (i : ℕ) (rows : List ℕ) → negsuc 999 ≤ℤ a → a ≤ℤ pos 1000 → negsuc 999 ≤ℤ b → b ≤ℤ pos 1000 → i + length rows ≤ 24 → size rows ≤ 24 → unsigned_abs (rows_cost a b i rows) ≤ size rows * 48001
unfolding rows_cost
rows_cost-small a b i [] al ah bl bh few small = omega arith
rows_cost-small a b i (row ∷ rows) al ah bl bh few small =
    let here = row_cost-small a b i row al ah bl bh (omega arith) (omega arith) in
    let rest = rows_cost-small a b (suc i) rows al ah bl bh (omega arith) (omega arith) in
    both (row_cost a b i row) (rows_cost a b (suc i) rows) row (size rows) here rest
  where
    both : (x y : ℤ) (m n : ℕ) → unsigned_abs x ≤ m * 48001 → unsigned_abs y ≤ n * 48001 → unsigned_abs (x +ℤ y) ≤ (m + n) * 48001
    both x y m n hx hy = omega (arith, ints)

pub edge_cost-small : (rows : List ℕ) (a b : ℤ) → IsSmall rows → unsigned_abs a ≤ 402 → unsigned_abs b ≤ 402 → unsigned_abs (edge_cost rows a b) ≤ size rows * 48001
edge_cost-small rows a b small ha hb =
    let few = few_rows rows small in
    rows_cost-small a b 0 rows (omega (arith, ints)) (omega (arith, ints)) (omega (arith, ints)) (omega (arith, ints)) (omega arith) (omega arith)

pub twist-small : (a : ℤ) (n : ℕ) → unsigned_abs a ≤ 402 → unsigned_abs (a *ℤ pos n) ≤ n * 402
twist-small a n h = rw (unsigned_abs-mul a (pos n)) (let most = mul-le (unsigned_abs a) n 402 n h (omega arith) in turned (unsigned_abs a * n) (402 * n) (n * 402) most (mul_comm 402 n))
  where
    turned : (x y z : ℕ) → x ≤ y → y ≡ z → x ≤ z
    turned x y z l e = omega arith

-- the cells of a cube are not too many
length-numbers : (k n : ℕ) → length (range_with_len k n) ≡ n
length-numbers k zero = refl
length-numbers k (suc n) = ap suc (length-numbers (k + 1) n)

length-column : (t : ℤ) (d h : ℕ) → length (column t d h) ≡ h
length-column t d h = length-map (below h) (λ z. cell (d + x_from t) (d + y_from t) z) ∙ length-numbers 0 h

length-diagonal : (t : ℤ) (n h side : ℕ) → n ≤ side → h ≤ side → length (diagonal t n h) ≤ side * side
length-diagonal t n h side l m =
    let pieces = length-flat_map-le (λ d. column t d h) side (λ d. le_trans (le_of_eq (length-column t d h)) m) (below n) in
    let number = length-numbers 0 n in
    le_trans pieces (mul-le (length (below n)) side side side (omega arith) (omega arith))

length-falling : (n : ℕ) (t : ℤ) → length (falling n t) ≡ n
length-falling zero t = refl
length-falling (suc n) t = ap suc (length-falling n (t -ℤ pos 1))

length-cube : (n : ℕ) → n ≤ 24 → length (cube n) ≤ 27072
unfolding cube
length-cube zero h = omega arith
length-cube (suc n) h =
    let pieces = length-flat_map-le (λ t. diagonal t (suc n - nat_abs t) (suc n)) 576 (λ t. length-diagonal t (suc n - nat_abs t) (suc n) 24 (omega arith) h) (falling (suc (n + n)) (pos n)) in
    let number = length-falling (suc (n + n)) (pos n) in
    omega arith

legs_at-few : (legs : Legs) (c : Cell) → legs_at legs c - 1 ≤ 2
legs_at-few legs c =
    let x = bit-few (has legs.along_x c.y c.z) in let y = bit-few (has legs.along_y c.x c.z) in let z = bit-few (has legs.along_z c.x c.y) in omega arith
  where
    bit-few : (b : Bool) → bit b ≤ 1
    bit-few true = omega arith
    bit-few false = omega arith

overlaps-few : (legs : Legs) (cells : List Cell) → overlaps legs cells ≤ 2 * length cells
unfolding overlaps
overlaps-few legs [] = omega arith
overlaps-few legs (c ∷ cells) = let here = legs_at-few legs c in let rest = overlaps-few legs cells in omega arith

pub overlap_cost-small : (legs : Legs) → extent legs ≤ 24 → overlap_cost legs ≤ 54144
unfolding overlap_cost
overlap_cost-small legs h = let few = overlaps-few legs (cube (extent legs)) in let cells = length-cube (extent legs) h in omega arith

pub extent-small : (legs : Legs) → IsSmall legs.along_x → IsSmall legs.along_y → IsSmall legs.along_z → extent legs ≤ 24
extent-small legs x y z =
    let lx = few_rows legs.along_x x in let ly = few_rows legs.along_y y in let lz = few_rows legs.along_z z in
    let sx = short_rows legs.along_x x in let sy = short_rows legs.along_y y in let sz = short_rows legs.along_z z in
    omega arith

-- a number that is small enough is read back from 64 bits
pub read_small : (z : ℤ) → unsigned_abs z ≤ 10000000 → to_z w64 (of_z w64 z) ≡ z
read_small z h = omega (arith, ints)

pub read_cells : (z : ℤ) (n m : ℕ) → unsigned_abs z ≤ n * m → n ≤ 24 → m ≤ 48001 → unsigned_abs (to_z w64 (of_z w64 z)) ≤ n * m
read_cells z n m h few small = let most = mul-le n m 24 48001 few small in let e = read_small z (least (unsigned_abs z) (n * m) h most) in rw e h
  where
    least : (x p : ℕ) → x ≤ p → p ≤ 24 * 48001 → x ≤ 10000000
    least x p hx hp = omega arith
