-- How large a product with a normal degree can be, and how the costs of cells, rows and diagrams are read and added.
use Rattle.std.proofs.Common.{◌≡◌, ℕ, zero, suc, ◌+◌, ◌-◌, ◌*◌, ◌≤◌, ◌<◌, List, [], ◌∷◌, length, w64, arith, refl, sym, ◌∙◌, ap}
use Rattle.std.specs.Prelude.{ℤ, pos, negsuc, neg_ℤ, ◌+ℤ◌, ◌-ℤ◌, ◌*ℤ◌, ◌≤ℤ◌}
use Rattle.std.proofs.lemmas.Int.{ints}
use Rattle.std.proofs.lemmas.Nat.{mul-le}
use mir.Val.{to_z, of_z}
use Rattle.tv_partition.proofs.Bounds.{few_rows}
use Rattle.tv_cells.specs.Costs.{row_cost, rows_cost}

pub product_low : (m : ℤ) (n : ℕ) → negsuc 999 ≤ℤ m → m ≤ℤ pos 1000 → n ≤ 24 → negsuc 23999 ≤ℤ (m *ℤ pos n)
product_low (pos k) n low high small = omega (arith, ints)
product_low (negsuc k) n low high small =
    let most : suc k ≤ 1000 = omega (arith, ints) in
    let bound : suc k * n ≤ 1000 * 24 = mul-le (suc k) n 1000 24 most small in
    below (suc k * n) bound
  where
    below : (p : ℕ) → p ≤ 24000 → negsuc 23999 ≤ℤ neg_ℤ (pos p)
    below p l = omega (arith, ints)

pub product_high : (m : ℤ) (n : ℕ) → negsuc 999 ≤ℤ m → m ≤ℤ pos 1000 → n ≤ 24 → (m *ℤ pos n) ≤ℤ pos 24000
product_high (pos k) n low high small =
    let most : k ≤ 1000 = omega (arith, ints) in
    let bound : k * n ≤ 1000 * 24 = mul-le k n 1000 24 most small in
    above (k * n) bound
  where
    above : (p : ℕ) → p ≤ 24000 → pos p ≤ℤ pos 24000
    above p l = omega (arith, ints)
product_high (negsuc k) n low high small = below (suc k * n)
  where
    below : (p : ℕ) → neg_ℤ (pos p) ≤ℤ pos 24000
    below p = omega (arith, ints)

pub ruleset bounded = (product_low, product_high, few_rows)

-- a sum of numbers of 64 bits that don't come near the end of their range
pub read_sum : (a b : ℤ) → negsuc 9999999 ≤ℤ a → a ≤ℤ pos 9999999 → negsuc 9999999 ≤ℤ b → b ≤ℤ pos 9999999 → to_z w64 (of_z w64 (to_z w64 (of_z w64 a) +ℤ to_z w64 (of_z w64 b))) ≡ a +ℤ b
read_sum a b al ah bl bh = omega (arith, ints)

pub read_cell : (a b : ℤ) → negsuc 23999 ≤ℤ a → a ≤ℤ pos 24000 → negsuc 23999 ≤ℤ b → b ≤ℤ pos 24000 → to_z w64 (of_z w64 (to_z w64 (of_z w64 (pos 1 -ℤ to_z w64 (of_z w64 a))) -ℤ to_z w64 (of_z w64 b))) ≡ (pos 1 -ℤ a) -ℤ b
read_cell a b al ah bl bh = omega (arith, ints)

pub cell_low : (a b : ℤ) → a ≤ℤ pos 24000 → b ≤ℤ pos 24000 → negsuc 48000 ≤ℤ ((pos 1 -ℤ a) -ℤ b)
cell_low a b ah bh = omega (arith, ints)

pub cell_high : (a b : ℤ) → negsuc 23999 ≤ℤ a → negsuc 23999 ≤ℤ b → ((pos 1 -ℤ a) -ℤ b) ≤ℤ pos 48001
cell_high a b al bl = omega (arith, ints)

-- a bound by a number of cells that is small enough
pub few_low : (a : ℤ) (n : ℕ) → n ≤ 24 → neg_ℤ (pos (48001 * n)) ≤ℤ a → negsuc 9999999 ≤ℤ a
few_low a n l low = omega (arith, ints)

pub few_high : (a : ℤ) (n : ℕ) → n ≤ 24 → a ≤ℤ pos (48001 * n) → a ≤ℤ pos 9999999
few_high a n l high = omega (arith, ints)

pub sum_low : (a b : ℤ) (m n k : ℕ) → k ≡ m + n → neg_ℤ (pos (48001 * m)) ≤ℤ a → neg_ℤ (pos (48001 * n)) ≤ℤ b → neg_ℤ (pos (48001 * k)) ≤ℤ (a +ℤ b)
sum_low a b m n k e al bl = omega (arith, ints)

pub sum_high : (a b : ℤ) (m n k : ℕ) → k ≡ m + n → a ≤ℤ pos (48001 * m) → b ≤ℤ pos (48001 * n) → (a +ℤ b) ≤ℤ pos (48001 * k)
sum_high a b m n k e ah bh = omega (arith, ints)

pub row-none : (a b : ℤ) (i n : ℕ) → n ≡ 0 → pos 0 ≡ row_cost a b i n
unfolding row_cost
row-none a b i n e = rw e refl

pub row-step : (a b : ℤ) (i n : ℕ) → 0 < n → row_cost a b i (n - 1) +ℤ ((pos 1 -ℤ (a *ℤ pos i)) -ℤ (b *ℤ pos (n - 1))) ≡ row_cost a b i n
unfolding row_cost
row-step a b i zero p = absurd (omega arith)
row-step a b i (suc n) p =
    let at : suc n - 1 ≡ n = omega arith in
    ap (λ j. row_cost a b i j +ℤ ((pos 1 -ℤ (a *ℤ pos i)) -ℤ (b *ℤ pos j))) at

pub rows-none : (a b : ℤ) (i : ℕ) (rows : List ℕ) → length rows ≡ 0 → pos 0 ≡ rows_cost a b i rows
unfolding rows_cost
rows-none a b i [] e = refl
rows-none a b i (row ∷ rows) e = absurd (omega arith)

pub rows-step : (a b : ℤ) (i row : ℕ) (rest rows : List ℕ) → rows ≡ row ∷ rest → row_cost a b i row +ℤ rows_cost a b (i + 1) rest ≡ rows_cost a b i rows
unfolding rows_cost
rows-step a b i row rest rows e =
    let up : i + 1 ≡ suc i = omega arith in
    ap (λ j. row_cost a b i row +ℤ rows_cost a b j rest) up ∙ ap (rows_cost a b i) (sym e)

pub read_one : (a : ℤ) → negsuc 999 ≤ℤ a → a ≤ℤ pos 1000 → to_z w64 (of_z w64 a) ≡ a
read_one a low high = omega (arith, ints)

pub same_cell : (a b c d : ℤ) (i j : ℕ) → a ≡ c → b ≡ d → (pos 1 -ℤ (a *ℤ pos i)) -ℤ (b *ℤ pos j) ≡ (pos 1 -ℤ (c *ℤ pos i)) -ℤ (d *ℤ pos j)
same_cell a b c d i j ea eb = rw (ea, eb) refl

pub same_row : (a b c d : ℤ) (i n : ℕ) → a ≡ c → b ≡ d → row_cost a b i n ≡ row_cost c d i n
same_row a b c d i n ea eb = rw (ea, eb) refl

pub same_rows : (a b c d : ℤ) (i : ℕ) (rows : List ℕ) → a ≡ c → b ≡ d → rows_cost a b i rows ≡ rows_cost c d i rows
same_rows a b c d i rows ea eb = rw (ea, eb) refl
