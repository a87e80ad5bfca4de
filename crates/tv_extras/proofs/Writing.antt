-- The cells that pass a test are written in their order, as far as the test holds: what is written and what is left make the
-- whole.
use Rattle.std.proofs.Common.{◌≡◌, ℕ, zero, suc, ◌+◌, ◌-◌, ◌<◌, ◌≤◌, Bool, true, false, List, [], ◌∷◌, ◌++◌, map, arith, refl, sym, ◌∙◌, ap, append_assoc, append-nil}
use Rattle.std.specs.Prelude.{cond, filter}
use Rattle.std.specs.List.{flat_map, range_with_len}
use Rattle.std.proofs.lemmas.List.Elements.{filter-append}
use Rattle.tv_cells.specs.declared.cell.Cell.{Cell}
use Rattle.tv_cells.specs.Cells.{cell}
use Rattle.tv_cells.specs.Grid.{heights, columns, diagonal_of}
use Rattle.tv_cells.proofs.Diagonals.{diagonals, numbers-next, numbers-none}

passed : (q : Cell → Bool) (c : Cell) (cells : List Cell) → q c ≡ true → filter q (c ∷ cells) ≡ c ∷ filter q cells
passed q c cells on = ap (λ b. cond b (c ∷ filter q cells) (filter q cells)) on

failed : (q : Cell → Bool) (c : Cell) (cells : List Cell) → q c ≡ false → filter q (c ∷ cells) ≡ filter q cells
failed q c cells off = ap (λ b. cond b (c ∷ filter q cells) (filter q cells)) off

pub column-next : (q : Cell → Bool) (x y n k : ℕ) (now before whole : List Cell) → k < n → q (cell x y k) ≡ true → now ≡ before ++ cell x y k ∷ [] → before ++ filter q (heights x y k (n - k)) ≡ whole → now ++ filter q (heights x y (k + 1) (n - (k + 1))) ≡ whole
column-next q x y n k now before whole l on push e =
    let step : filter q (heights x y k (n - k)) ≡ cell x y k ∷ filter q (heights x y (k + 1) (n - (k + 1))) =
    ap (λ ks. filter q (map (λ z. cell x y z) ks)) (numbers-next k n l) ∙ passed q (cell x y k) (heights x y (k + 1) (n - (k + 1))) on in
    rw push (append_assoc before (cell x y k ∷ []) (filter q (heights x y (k + 1) (n - (k + 1)))) ∙ (ap (λ cs. before ++ cs) (sym step) ∙ e))

pub column-none : (q : Cell → Bool) (x y k n : ℕ) → ((z : ℕ) → k ≤ z → q (cell x y z) ≡ false) → filter q (heights x y k n) ≡ []
column-none q x y k zero off = refl
column-none q x y k (suc n) off =
    failed q (cell x y k) (heights x y (k + 1) n) (off k (omega arith)) ∙ column-none q x y (k + 1) n (λ z h. off z (omega arith))

-- with nothing left all is written
pub all-written : (now left whole : List Cell) → left ≡ [] → now ++ left ≡ whole → now ≡ whole
all-written now left whole none e = sym (append-nil now) ∙ (ap (λ cs. now ++ cs) (sym none) ∙ e)

pub column-done : (q : Cell → Bool) (x y n : ℕ) (now whole : List Cell) → now ++ filter q (heights x y n (n - n)) ≡ whole → now ≡ whole
column-done q x y n now whole e = all-written now (filter q (heights x y n (n - n))) whole (ap (λ ks. filter q (map (λ z. cell x y z) ks)) (numbers-none n)) e

-- ---- parts by their numbers

part-next : (q : Cell → Bool) (f : ℕ → List Cell) (n k : ℕ) (now before whole : List Cell) → k < n → now ≡ before ++ filter q (f k) → before ++ filter q (flat_map f (range_with_len k (n - k))) ≡ whole → now ++ filter q (flat_map f (range_with_len (k + 1) (n - (k + 1)))) ≡ whole
part-next q f n k now before whole l push e =
    let rest : List Cell = flat_map f (range_with_len (k + 1) (n - (k + 1))) in
    let step : filter q (flat_map f (range_with_len k (n - k))) ≡ filter q (f k) ++ filter q rest =
    ap (λ ks. filter q (flat_map f ks)) (numbers-next k n l) ∙ filter-append q (f k) rest in
    rw push (append_assoc before (filter q (f k)) (filter q rest) ∙ (ap (λ cs. before ++ cs) (sym step) ∙ e))

parts-none : (q : Cell → Bool) (f : ℕ → List Cell) (k n : ℕ) → ((j : ℕ) → k ≤ j → filter q (f j) ≡ []) → filter q (flat_map f (range_with_len k n)) ≡ []
parts-none q f k zero none = refl
parts-none q f k (suc n) none =
    filter-append q (f k) (flat_map f (range_with_len (k + 1) n))
    ∙ (ap (λ cs. cs ++ filter q (flat_map f (range_with_len (k + 1) n))) (none k (omega arith)) ∙ parts-none q f (k + 1) n (λ j h. none j (omega arith)))

parts-done : (q : Cell → Bool) (f : ℕ → List Cell) (n : ℕ) (now whole : List Cell) → now ++ filter q (flat_map f (range_with_len n (n - n))) ≡ whole → now ≡ whole
parts-done q f n now whole e = all-written now (filter q (flat_map f (range_with_len n (n - n)))) whole (ap (λ ks. filter q (flat_map f ks)) (numbers-none n)) e

pub columns-next : (q : Cell → Bool) (x y h n k : ℕ) (now before whole : List Cell) → k < n → now ≡ before ++ filter q (heights (k + x) (k + y) 0 h) → before ++ filter q (columns x y h k (n - k)) ≡ whole → now ++ filter q (columns x y h (k + 1) (n - (k + 1))) ≡ whole
columns-next q x y h n k now before whole l push e = part-next q (λ d. heights (d + x) (d + y) 0 h) n k now before whole l push e

pub columns-none : (q : Cell → Bool) (x y h k n : ℕ) → ((d z : ℕ) → k ≤ d → q (cell (d + x) (d + y) z) ≡ false) → filter q (columns x y h k n) ≡ []
columns-none q x y h k n off = parts-none q (λ d. heights (d + x) (d + y) 0 h) k n (λ d l. column-none q (d + x) (d + y) 0 h (λ z m. off d z l))

pub columns-done : (q : Cell → Bool) (x y h n : ℕ) (now whole : List Cell) → now ++ filter q (columns x y h n (n - n)) ≡ whole → now ≡ whole
columns-done q x y h n now whole e = parts-done q (λ d. heights (d + x) (d + y) 0 h) n now whole e

pub diagonals-next : (q : Cell → Bool) (side n k : ℕ) (now before whole : List Cell) → k < n → now ≡ before ++ filter q (diagonal_of side k) → before ++ filter q (diagonals side k (n - k)) ≡ whole → now ++ filter q (diagonals side (k + 1) (n - (k + 1))) ≡ whole
diagonals-next q side n k now before whole l push e = part-next q (diagonal_of side) n k now before whole l push e

pub diagonals-done : (q : Cell → Bool) (side n : ℕ) (now whole : List Cell) → now ++ filter q (diagonals side n (n - n)) ≡ whole → now ≡ whole
diagonals-done q side n now whole e = parts-done q (diagonal_of side) n now whole e

pub diagonal-whole : (q : Cell → Bool) (side k x y : ℕ) → x ≡ (side - 1) - k → y ≡ k - (side - 1) → filter q (columns x y side 0 (side - (x + y))) ≡ filter q (diagonal_of side k)
diagonal-whole q side k x y ex ey = rw (ex, ey) refl
